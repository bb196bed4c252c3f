-- What no operation touches: the journal and its count, the edition, every length, and that the system's flag is a flag. Shown for each small
-- move, composed with `then`, and looked up in the list of operations, so that an operation put there brings its own line.
use mathlib.Core.Path.{◌≡◌, refl, sym, ◌∙◌, subst}
use mathlib.Core.Logic.{◌≢◌}
use mathlib.Core.List.{List, [], ◌∷◌}
use mathlib.Core.Bool.{◌&&◌}
use Prim.Native.Nat.{ℕ, zero, suc, ◌-◌, ◌≤◌, ◌<◌}
use native.Mathlib.Decide.{ℕ_discrete, dec_lt}
use native.Mathlib.Omega.{arith}
use lib.ListN.{get_or, set, length, length-set}
use lib.Seq.{get_or-set_same, get_or-set_other, set_out}
use lib.Dec.{eqb, ltb}
use Rattle.rules.specs.Limits.{WALLET_LEN, RECEIPT_LEN, EDITION, SYSTEM_FROZEN, CLOCK, GRANTED, WALLETS, ESCROWS, RECEIPTS, ENTRIES, ACCEPTS}
use Rattle.rules.specs.Limits.{RECEIPT_LINK, AUTO_ACCEPT, AUTO_OR_FREEZE, ACCEPTED, RELEASED, FROZEN}
use Rattle.rules.specs.Table.{loop}
use Rattle.rules.specs.Ledger.{Ledger, head, receipt, entry_count, receipt_count, escrow_count, wallet_row, has_wallet, set_wallets, set_escrows, set_receipts}
use Rattle.rules.specs.Ledger.{put_head, put_wallet, put_escrow, put_receipt, new_wallet, new_escrow, new_receipt}
use Rattle.rules.specs.Record.{bit}
use Rattle.rules.specs.Refusals.{releasable, clear}
use Rattle.rules.specs.Settle.{Done, Sweep, sweep_start, swept_receipts, swept, due_receipt, due_escrow, raise, lower, ensure_wallet, end_escrow, close_receipt, accept_row, reply}
use Rattle.rules.specs.Settle.{close_due_receipt, close_due_escrow, sweep_receipt, sweep_escrow, operations, idle, operate_by, operate}
use Rattle.rules.specs.Settle.{grant, transfer, open_escrow, release, refund, claim, accept, dispute, sweep, freeze, caps, close}
use Rattle.rules.specs.Promises.{SameLengths}
use Rattle.rules.specs.declared.Submission.{Submission}
use Rattle.rules.proofs.Bools.{cond_case}
use Rattle.rules.proofs.Rows.{length_put, length_put_row}

pub lengths_same : (L : Ledger) → SameLengths L L
lengths_same L = record { edition = refl; header = refl; wallets = refl; escrows = refl; receipts = refl; journal = refl }

pub lengths_then : {L K M : Ledger} → SameLengths K L → SameLengths M K → SameLengths M L
lengths_then a b = record {
  edition = b.edition ∙ a.edition;
  header = b.header ∙ a.header;
  wallets = b.wallets ∙ a.wallets;
  escrows = b.escrows ∙ a.escrows;
  receipts = b.receipts ∙ a.receipts;
  journal = b.journal ∙ a.journal;
}

pub record Keeps (L K : Ledger) : Type 0 where
  pub lengths : SameLengths K L
  pub rows : K.journal ≡ L.journal
  pub count : entry_count K ≡ entry_count L
  pub number : head K EDITION ≡ head L EDITION
  pub flag : head L SYSTEM_FROZEN ≤ 1 → head K SYSTEM_FROZEN ≤ 1

pub same : (L : Ledger) → Keeps L L
same L = record { lengths = lengths_same L; rows = refl; count = refl; number = refl; flag = λ x. x }

pub then : {L K M : Ledger} → Keeps L K → Keeps K M → Keeps L M
then a b = record {
  lengths = lengths_then a.lengths b.lengths;
  rows = b.rows ∙ a.rows;
  count = b.count ∙ a.count;
  number = b.number ∙ a.number;
  flag = λ x. b.flag (a.flag x);
}

-- ---- one table changed, its length kept

-- a word of the header that is neither the edition nor the journal's count; if it is the flag, it is 0 or 1
pub keeps_head : (k v : ℕ) (L : Ledger) → ENTRIES ≢ k → EDITION ≢ k → (SYSTEM_FROZEN ≡ k → v ≤ 1) → Keeps L (put_head k v L)
unfolding put_head
keeps_head k v L ne n0 one = record {
  lengths = record { edition = refl; header = length-set L.header k v; wallets = refl; escrows = refl; receipts = refl; journal = refl };
  rows = refl;
  count = get_or-set_other L.header k ENTRIES v 0 ne;
  number = get_or-set_other L.header k EDITION v 0 n0;
  flag = λ h. go h (ℕ_discrete SYSTEM_FROZEN k) (dec_lt k (length L.header));
}
  where
    go : head L SYSTEM_FROZEN ≤ 1 → Dec (SYSTEM_FROZEN ≡ k) → Dec (k < length L.header) → get_or (set L.header k v) SYSTEM_FROZEN 0 ≤ 1
    go h (no e) d = subst (λ (x : ℕ). x ≤ 1) (sym (get_or-set_other L.header k SYSTEM_FROZEN v 0 e)) h
    go h (yes e) (yes l) =
        subst (λ (j : ℕ). get_or (set L.header k v) j 0 ≤ 1) (sym e)
        (subst (λ (x : ℕ). x ≤ 1) (sym (get_or-set_same L.header k v 0 l)) (one e))
    go h (yes e) (no l) = subst (λ (t : List ℕ). get_or t SYSTEM_FROZEN 0 ≤ 1) (sym (set_out L.header k v (omega (arith, l)))) h

keeps_wallets : (t : List ℕ) (L : Ledger) → length t ≡ length L.wallets → Keeps L (set_wallets t L)
keeps_wallets t L e = record {
  lengths = record { edition = refl; header = refl; wallets = e; escrows = refl; receipts = refl; journal = refl };
  rows = refl;
  count = refl;
  number = refl;
  flag = λ x. x;
}

keeps_escrows : (t : List ℕ) (L : Ledger) → length t ≡ length L.escrows → Keeps L (set_escrows t L)
keeps_escrows t L e = record {
  lengths = record { edition = refl; header = refl; wallets = refl; escrows = e; receipts = refl; journal = refl };
  rows = refl;
  count = refl;
  number = refl;
  flag = λ x. x;
}

keeps_receipts : (t : List ℕ) (L : Ledger) → length t ≡ length L.receipts → Keeps L (set_receipts t L)
keeps_receipts t L e = record {
  lengths = record { edition = refl; header = refl; wallets = refl; escrows = refl; receipts = e; journal = refl };
  rows = refl;
  count = refl;
  number = refl;
  flag = λ x. x;
}

pub keeps_put_wallet : (i k v : ℕ) (L : Ledger) → Keeps L (put_wallet i k v L)
unfolding put_wallet
keeps_put_wallet i k v L = keeps_wallets _ L (length_put L.wallets WALLET_LEN i k v)

pub keeps_put_escrow : (i k v : ℕ) (L : Ledger) → Keeps L (put_escrow i k v L)
unfolding put_escrow
keeps_put_escrow i k v L = keeps_escrows _ L (length_put L.escrows L.edition.escrow i k v)

pub keeps_put_receipt : (i k v : ℕ) (L : Ledger) → Keeps L (put_receipt i k v L)
unfolding put_receipt
keeps_put_receipt i k v L = keeps_receipts _ L (length_put L.receipts RECEIPT_LEN i k v)

pub keeps_new_wallet : (vs : List ℕ) (L : Ledger) → Keeps L (new_wallet vs L)
unfolding new_wallet
keeps_new_wallet vs L =
    then (keeps_wallets _ L (length_put_row L.wallets WALLET_LEN (head L WALLETS) vs))
    (keeps_head WALLETS _ _ (omega arith) (omega arith) (λ e. absurd (omega arith)))

pub keeps_new_escrow : (vs : List ℕ) (L : Ledger) → Keeps L (new_escrow vs L)
unfolding new_escrow
keeps_new_escrow vs L =
    then (keeps_escrows _ L (length_put_row L.escrows L.edition.escrow (head L ESCROWS) vs))
    (keeps_head ESCROWS _ _ (omega arith) (omega arith) (λ e. absurd (omega arith)))

pub keeps_new_receipt : (vs : List ℕ) (L : Ledger) → Keeps L (new_receipt vs L)
unfolding new_receipt
keeps_new_receipt vs L =
    then (keeps_receipts _ L (length_put_row L.receipts RECEIPT_LEN (head L RECEIPTS) vs))
    (keeps_head RECEIPTS _ _ (omega arith) (omega arith) (λ e. absurd (omega arith)))

-- ---- the moves

keeps_raise : (k id a : ℕ) (L : Ledger) → Keeps L (raise k id a L)
unfolding raise
keeps_raise k id a L = keeps_put_wallet _ _ _ L

keeps_lower : (k id a : ℕ) (L : Ledger) → Keeps L (lower k id a L)
unfolding lower
keeps_lower k id a L = keeps_put_wallet _ _ _ L

keeps_ensure : (id : ℕ) (L : Ledger) → Keeps L (ensure_wallet id L)
unfolding ensure_wallet
keeps_ensure id L = cond_case (Keeps L) (has_wallet L id) L _ (λ e. same L) (λ e. keeps_new_wallet _ L)

pub keeps_end : (state now signer i : ℕ) (L : Ledger) → Keeps L (end_escrow state now signer i L)
unfolding end_escrow
keeps_end state now signer i L =
    then (then (then (then (keeps_put_escrow _ _ _ L) (keeps_put_escrow _ _ _ _)) (keeps_put_escrow _ _ _ _)) (keeps_lower _ _ _ _))
    (keeps_raise _ _ _ _)

pub keeps_close : (state now signer i : ℕ) (L : Ledger) → Keeps L (close_receipt state now signer i L)
unfolding close_receipt
keeps_close state now signer i L = then (then (keeps_put_receipt _ _ _ L) (keeps_put_receipt _ _ _ _)) (keeps_put_receipt _ _ _ _)

pub keeps_accept : (now signer i : ℕ) (L : Ledger) → Keeps L (accept_row now signer i L).after
unfolding accept_row
keeps_accept now signer i L =
    let k = receipt L i RECEIPT_LINK in
    let closed = keeps_close ACCEPTED now signer i L in
    cond_case (λ (d : Done). Keeps L d.after) (eqb k 0) _ _ (λ e. closed)
    (λ e. cond_case (λ (d : Done). Keeps L d.after) (releasable L now (k - 1)) _ _ (λ f. then closed (keeps_end RELEASED now signer (k - 1) _))
    (λ f. then closed (keeps_put_receipt _ _ _ _)))

-- ---- the sweep

pub keeps_due_receipt : (now i : ℕ) (L : Ledger) → Keeps L (close_due_receipt now i L)
unfolding close_due_receipt
keeps_due_receipt now i L =
    cond_case (Keeps L) (eqb (receipt L i AUTO_ACCEPT) 1) _ _ (λ e. keeps_accept _ _ _ L) (λ e. keeps_close _ _ _ _ L)

pub keeps_due_escrow : (now i : ℕ) (L : Ledger) → Keeps L (close_due_escrow now i L)
unfolding close_due_escrow
keeps_due_escrow now i L = keeps_end _ _ _ _ L

keeps_loop : (n : ℕ) (f : ℕ → Sweep → Sweep) → ((i : ℕ) (s : Sweep) → Keeps s.tables (f i s).tables) → (s : Sweep)
    → Keeps s.tables (loop n f s).tables
unfolding loop
keeps_loop zero f k s = same s.tables
keeps_loop (suc n) f k s = then (keeps_loop n f k s) (k n (loop n f s))

keeps_sweep_receipt : (now i : ℕ) (s : Sweep) → Keeps s.tables (sweep_receipt now i s).tables
unfolding sweep_receipt
keeps_sweep_receipt now i s =
    cond_case (λ (z : Sweep). Keeps s.tables z.tables) (ltb 0 s.room && due_receipt s.tables now i) _ s
    (λ e. keeps_due_receipt now i s.tables) (λ e. same s.tables)

keeps_sweep_escrow : (now i : ℕ) (s : Sweep) → Keeps s.tables (sweep_escrow now i s).tables
unfolding sweep_escrow
keeps_sweep_escrow now i s =
    cond_case (λ (z : Sweep). Keeps s.tables z.tables) (ltb 0 s.room && due_escrow s.tables now i) _ s
    (λ e. keeps_due_escrow now i s.tables) (λ e. same s.tables)

pub keeps_swept : (now limit : ℕ) (L : Ledger) → Keeps L (swept now limit L).tables
unfolding swept swept_receipts
keeps_swept now limit L =
    then (keeps_loop (receipt_count L) (sweep_receipt now) (keeps_sweep_receipt now) (sweep_start limit L))
    (keeps_loop (escrow_count L) (sweep_escrow now) (keeps_sweep_escrow now) (swept_receipts now limit L))

-- ---- every operation

abbrev Kept : (Submission → Ledger → Done) → Type 0
Kept f = (s : Submission) (L : Ledger) → Keeps L (f s L).after

abbrev AllKept : List (Submission → Ledger → Done) → Type 0
AllKept [] = Unit {0}
AllKept (f ∷ fs) = Kept f × AllKept fs

kept_at : (fs : List (Submission → Ledger → Done)) → AllKept fs → (k : ℕ) → Kept (get_or fs k idle)
kept_at [] a k = λ s L. same L
kept_at (f ∷ fs) a zero = a.0
kept_at (f ∷ fs) a (suc k) = kept_at fs a.1 k

all_kept : AllKept operations
unfolding grant transfer open_escrow release refund claim accept dispute reply sweep freeze caps close
all_kept = (
  (λ s L. then (then (keeps_ensure _ L) (keeps_raise _ _ _ _)) (keeps_head GRANTED _ _ (omega arith) (omega arith) (λ e. absurd (omega arith)))),
  (
    (λ s L. then (then (keeps_ensure _ L) (keeps_lower _ _ _ _)) (keeps_raise _ _ _ _)),
    (
      (λ s L. then (then (then (keeps_ensure _ L) (keeps_lower _ _ _ _)) (keeps_raise _ _ _ _)) (keeps_new_escrow _ _)),
      (
        (λ s L. keeps_end _ _ _ _ L),
        (
          (λ s L. keeps_end _ _ _ _ L),
          (
            (λ s L. keeps_new_receipt _ L),
            (
              (λ s L. cond_case (λ (d : Done). Keeps L d.after) (clear s ACCEPTS) _ _ (λ e. keeps_close _ _ _ _ L) (λ e. keeps_accept _ _ _ L)),
              (
                (λ s L. same L),
                (
                  (λ s L. keeps_swept _ _ L),
                  (
                    (λ s L. cond_case (Keeps L) (eqb s.target 0) _ _
                        (λ e. keeps_head SYSTEM_FROZEN (bit AUTO_OR_FREEZE s.flags) L (omega arith) (omega arith) (λ _. omega arith))
                        (λ e. keeps_put_wallet (wallet_row L s.target) FROZEN (bit AUTO_OR_FREEZE s.flags) L)),
                    (
                      (λ s L. then (keeps_put_wallet _ _ _ L) (keeps_put_wallet _ _ _ _)),
                      (
                        (λ s L. keeps_put_wallet _ _ _ L),
                        tt,
                      ),
                    ),
                  ),
                ),
              ),
            ),
          ),
        ),
      ),
    ),
  ),
)

pub keeps_operate : (s : Submission) (L : Ledger) → Keeps L (operate s L).after
unfolding operate_by
keeps_operate s L = kept_at operations all_kept (s.op - 1) s L

-- everything but the journal row is done
abbrev pub before_entry : Submission → Ledger → Ledger
before_entry s L = put_head CLOCK s.now (operate s L).after

pub keeps_before : (s : Submission) (L : Ledger) → Keeps L (before_entry s L)
keeps_before s L = then (keeps_operate s L) (keeps_head CLOCK _ _ (omega arith) (omega arith) (λ e. absurd (omega arith)))
