-- A sweep laid out on the tables as they were before it. Which escrows it has released so far is kept as marks, one for each row of
-- escrows, false until its escrow is released: the state of an escrow in the sweep is then known without closing anything.
use Rattle.std.specs.Prelude.{◌≡◌, List, Option, Some, None, Bool, true, false, not, cond, ◌&&◌, ℕ, ◌-◌, get_or, set, length, eqb, ltb, leb}
use Rattle.rules.specs.Limits.{RECEIPT_LEN, MAX_ESCROWS, IS_OPEN, RELEASED, REFUNDED, EXPIRED, PENDING, ESCROW_AMOUNT, ESCROW_DEADLINE, ESCROW_STATE}
use Rattle.rules.specs.Limits.{RECEIPT_LINK, ACCEPTANCE_DEADLINE, AUTO_ACCEPT, RECEIPT_STATE}
use Rattle.rules.specs.Table.{word}
use Rattle.rules.specs.Ledger.{Ledger}
use Rattle.rules.specs.Settle.{Sweep, due_escrow}
use Rattle.rules.specs.Report.{ended_as}
use Rattle.rules.specs.declared.Edition.{Edition}
use Rattle.rules.proofs.Stays.{Kept}
use Rattle.rules.proofs.Onward.{Onward}

-- the row of the escrow that the receipt in row i links
abbrev pub linked : List ℕ → ℕ → ℕ
linked receipts i = word receipts RECEIPT_LEN i RECEIPT_LINK - 1

-- the receipt in row i is accepted: its escrow is released
abbrev pub frees : Edition → List ℕ → List ℕ → ℕ → ℕ → Bool
frees ed escrows receipts time i =
    not (eqb (word receipts RECEIPT_LEN i RECEIPT_LINK) 0)
    && (eqb (word escrows ed.escrow (linked receipts i) ESCROW_STATE) IS_OPEN
    && leb time (word escrows ed.escrow (linked receipts i) ESCROW_DEADLINE))

-- with its amount
unfoldable pub freed : Edition → List ℕ → List ℕ → ℕ → ℕ → ℕ
freed ed escrows receipts time i =
    cond (frees ed escrows receipts time i) (word escrows ed.escrow (linked receipts i) ESCROW_AMOUNT) 0

-- the receipt in row i is due
abbrev pub closes : List ℕ → ℕ → ℕ → Bool
closes receipts time i = eqb (word receipts RECEIPT_LEN i RECEIPT_STATE) PENDING && ltb (word receipts RECEIPT_LEN i ACCEPTANCE_DEADLINE) time

-- it is accepted by a sweep, and its escrow is released, if no receipt before it has done so
abbrev pub frees_now : Edition → List ℕ → List ℕ → List Bool → ℕ → ℕ → Bool
frees_now ed escrows receipts marks time i =
    eqb (word receipts RECEIPT_LEN i AUTO_ACCEPT) 1
    && (not (eqb (word receipts RECEIPT_LEN i RECEIPT_LINK) 0)
    && ((eqb (word escrows ed.escrow (linked receipts i) ESCROW_STATE) IS_OPEN && not (get_or marks (linked receipts i) false))
    && leb time (word escrows ed.escrow (linked receipts i) ESCROW_DEADLINE)))

unfoldable pub freed_now : Edition → List ℕ → List ℕ → List Bool → ℕ → ℕ → ℕ
freed_now ed escrows receipts marks time i =
    cond (frees_now ed escrows receipts marks time i) (word escrows ed.escrow (linked receipts i) ESCROW_AMOUNT) 0

-- and the marks after it
unfoldable pub marked_now : Edition → List ℕ → List ℕ → List Bool → ℕ → ℕ → List Bool
marked_now ed escrows receipts marks time i = cond (frees_now ed escrows receipts marks time i) (set marks (linked receipts i) true) marks

-- a turn of the sweep: what it releases, if it closes its row, and the marks after it
unfoldable pub closed_turn : Edition → List ℕ → List ℕ → List Bool → ℕ → ℕ → Option ℕ
closed_turn ed escrows receipts marks time i = cond (closes receipts time i) (Some (freed_now ed escrows receipts marks time i)) None

unfoldable pub closed_marks : Edition → List ℕ → List ℕ → List Bool → ℕ → ℕ → List Bool
closed_marks ed escrows receipts marks time i = cond (closes receipts time i) (marked_now ed escrows receipts marks time i) marks

-- the escrow in row i is due; a turn of the sweep's second loop
abbrev pub expires : Edition → List ℕ → ℕ → ℕ → Bool
expires ed escrows time i =
    eqb (word escrows ed.escrow i ESCROW_STATE) IS_OPEN && ltb (word escrows ed.escrow i ESCROW_DEADLINE) time

unfoldable pub expired_turn : Edition → List ℕ → ℕ → ℕ → Option ℕ
expired_turn ed escrows time i = cond (expires ed escrows time i) (Some (word escrows ed.escrow i ESCROW_AMOUNT)) None

-- a mark for each escrow that there can be, and nothing is marked yet
pub record Unmarked (marks : List Bool) : Type 0 where
  pub places : length marks ≡ MAX_ESCROWS
  pub none : (i : ℕ) → get_or marks i false ≡ false

-- M comes of L by settling; what was released on the way is r, what expired x, and nothing was refunded
pub record Ended (L : Ledger) (r x : ℕ) (M : Ledger) : Type 0 where
  pub kept : Kept L M
  pub onward : Onward L M
  pub released : ended_as RELEASED L M ≡ r
  pub refunded : ended_as REFUNDED L M ≡ 0
  pub expired : ended_as EXPIRED L M ≡ x

-- a sweep S of L that has closed receipts only, with room for n rows more: its due escrows are those of L
pub record Receipted (L : Ledger) (time n r : ℕ) (S : Sweep) : Type 0 where
  pub room : S.room ≡ n
  pub due : (i : ℕ) → due_escrow S.tables time i ≡ due_escrow L time i
  pub ended : Ended L r 0 S.tables
