-- Section "What settling does": small moves on the ledger first, then each operation over them, the sweep by its own rule, and the journal. What
-- operations 7 and 8 do is the form's; a name without a form is today's.
use Rattle.std.specs.Prelude.{List, [], ◌∷◌, Bool, cond, ◌&&◌, ℕ, ◌+◌, ◌-◌, get_or, eqb, ltb}
use Rattle.rules.specs.Limits.{DEFAULT_TX_CAP_MICRO, DEFAULT_DAILY_CAP_MICRO, AUTO_OR_FREEZE, ACCEPTS, SWEEP, RELEASE_IMPOSSIBLE}
use Rattle.rules.specs.Limits.{SYSTEM_FROZEN, CLOCK, GRANTED, BALANCE, LOCKED, FROZEN, TX_CAP, DAILY_CAP, IS_CLOSED, IS_OPEN, RELEASED, REFUNDED, EXPIRED}
use Rattle.rules.specs.Limits.{FROM, TO, ESCROW_AMOUNT, ESCROW_DEADLINE, ESCROW_STATE, ESCROW_CLOSED_AT, ESCROW_CLOSED_BY}
use Rattle.rules.specs.Limits.{RECEIPT_LINK, ACCEPTANCE_DEADLINE, AUTO_ACCEPT, RECEIPT_STATE, RECEIPT_CLOSED_AT, RECEIPT_CLOSED_BY, RELEASE_CODE}
use Rattle.rules.specs.Limits.{PENDING, ACCEPTED, DISPUTED, LAPSED}
use Rattle.rules.specs.Table.{loop}
use Rattle.rules.specs.Ledger.{Ledger, head, wallet, escrow, receipt, escrow_count, receipt_count, wallet_row, has_wallet}
use Rattle.rules.specs.Ledger.{put_head, put_wallet, put_escrow, put_receipt, new_wallet, new_escrow, new_receipt, new_entry}
use Rattle.rules.specs.Record.{bit}
use Rattle.rules.specs.Refusals.{clear, releasable}
use Rattle.rules.specs.declared.Form.{Form}
use Rattle.rules.specs.declared.Form.TheVariants.{Old, Today}
use Rattle.rules.specs.declared.Submission.{Submission}

-- more and less in a word of the wallet of id
unfoldable pub raise : ℕ → ℕ → ℕ → Ledger → Ledger
raise k id a L = put_wallet (wallet_row L id) k (wallet L (wallet_row L id) k + a) L

unfoldable pub lower : ℕ → ℕ → ℕ → Ledger → Ledger
lower k id a L = put_wallet (wallet_row L id) k (wallet L (wallet_row L id) k - a) L

-- a missing wallet is made: zeros and the usual caps
abbrev pub blank_wallet : ℕ → List ℕ
blank_wallet id = id ∷ 0 ∷ 0 ∷ 0 ∷ DEFAULT_TX_CAP_MICRO ∷ DEFAULT_DAILY_CAP_MICRO ∷ []

unfoldable pub ensure_wallet : ℕ → Ledger → Ledger
ensure_wallet id L = cond (has_wallet L id) L (new_wallet (blank_wallet id) L)

-- the escrow in row i ends: its credits leave its sender's locked for the recipient's balance if it is released, else for the sender's own
unfoldable pub end_escrow : ℕ → ℕ → ℕ → ℕ → Ledger → Ledger
end_escrow state now signer i L =
    let a = escrow L i ESCROW_AMOUNT in
    raise BALANCE (cond (eqb state RELEASED) (escrow L i TO) (escrow L i FROM)) a
    (lower LOCKED (escrow L i FROM) a
    (put_escrow i ESCROW_CLOSED_BY signer (put_escrow i ESCROW_CLOSED_AT now (put_escrow i ESCROW_STATE state L))))

-- the receipt in row i is closed
unfoldable pub close_receipt : ℕ → ℕ → ℕ → ℕ → Ledger → Ledger
close_receipt state now signer i L =
    put_receipt i RECEIPT_CLOSED_BY signer (put_receipt i RECEIPT_CLOSED_AT now (put_receipt i RECEIPT_STATE state L))

-- what an operation leaves, with the answer's word
pub record Done : Type 0 where
  pub word : ℕ
  pub after : Ledger

abbrev pub done : ℕ → Ledger → Done
done word after = record { word = word; after = after }

-- the receipt in row i is accepted: its escrow is released if it is open and not stale, and is the word; if that is impossible, 29 is stored
unfoldable pub accept_row : ℕ → ℕ → ℕ → Ledger → Done
accept_row now signer i L =
    let k = receipt L i RECEIPT_LINK in
    let closed = close_receipt ACCEPTED now signer i L in
    cond (eqb k 0) (done 0 closed)
    (cond (releasable L now (k - 1)) (done k (end_escrow RELEASED now signer (k - 1) closed))
    (done 0 (put_receipt i RELEASE_CODE RELEASE_IMPOSSIBLE closed)))

-- a sweep under way: how many rows it may still close, how many it has closed
pub record Sweep : Type 0 where
  pub room : ℕ
  pub closed : ℕ
  pub tables : Ledger

abbrev pub one_more : Sweep → Ledger → Sweep
one_more s L = record { room = s.room - 1; closed = s.closed + 1; tables = L }

abbrev pub due_receipt : Ledger → ℕ → ℕ → Bool
due_receipt L now i = eqb (receipt L i RECEIPT_STATE) PENDING && ltb (receipt L i ACCEPTANCE_DEADLINE) now

abbrev pub due_escrow : Ledger → ℕ → ℕ → Bool
due_escrow L now i = eqb (escrow L i ESCROW_STATE) IS_OPEN && ltb (escrow L i ESCROW_DEADLINE) now

-- an auto-accept receipt is accepted, any other expires
unfoldable pub close_due_receipt : ℕ → ℕ → Ledger → Ledger
close_due_receipt now i L = cond (eqb (receipt L i AUTO_ACCEPT) 1) (accept_row now 0 i L).after (close_receipt LAPSED now 0 i L)

-- an escrow expires with its credits returned
unfoldable pub close_due_escrow : ℕ → ℕ → Ledger → Ledger
close_due_escrow now i L = end_escrow EXPIRED now 0 i L

unfoldable pub sweep_receipt : ℕ → ℕ → Sweep → Sweep
sweep_receipt now i s =
    let L = s.tables in
    cond (ltb 0 s.room && due_receipt L now i) (one_more s (close_due_receipt now i L)) s

unfoldable pub sweep_escrow : ℕ → ℕ → Sweep → Sweep
sweep_escrow now i s =
    let L = s.tables in
    cond (ltb 0 s.room && due_escrow L now i) (one_more s (close_due_escrow now i L)) s

abbrev pub sweep_start : ℕ → Ledger → Sweep
sweep_start limit L = record { room = limit; closed = 0; tables = L }

-- due receipts in row order first, then due escrows in row order
unfoldable pub swept_receipts : ℕ → ℕ → Ledger → Sweep
swept_receipts now limit L = loop (receipt_count L) (sweep_receipt now) (sweep_start limit L)

unfoldable pub swept : ℕ → ℕ → Ledger → Sweep
swept now limit L = loop (escrow_count L) (sweep_escrow now) (swept_receipts now limit L)

-- what each operation does, but for the clock and the journal
unfoldable pub grant : Submission → Ledger → Done
grant s L = done 0 (put_head GRANTED (head L GRANTED + s.amount) (raise BALANCE s.target s.amount (ensure_wallet s.target L)))

unfoldable pub transfer : Submission → Ledger → Done
transfer s L = done 0 (raise BALANCE s.target s.amount (lower BALANCE s.signer s.amount (ensure_wallet s.target L)))

abbrev pub escrow_of : Submission → List ℕ
escrow_of s = s.signer ∷ s.target ∷ s.amount ∷ s.until ∷ IS_OPEN ∷ s.now ∷ 0 ∷ 0 ∷ []

unfoldable pub open_escrow : Submission → Ledger → Done
open_escrow s L =
    done (escrow_count L + 1)
    (new_escrow (escrow_of s) (raise LOCKED s.signer s.amount (lower BALANCE s.signer s.amount (ensure_wallet s.target L))))

unfoldable pub release : Submission → Ledger → Done
release s L = done 0 (end_escrow RELEASED s.now s.signer (s.target - 1) L)

unfoldable pub refund : Submission → Ledger → Done
refund s L = done 0 (end_escrow REFUNDED s.now s.signer (s.target - 1) L)

abbrev pub receipt_of : Submission → List ℕ
receipt_of s =
    s.signer ∷ s.target ∷ s.link ∷ s.until ∷ bit AUTO_OR_FREEZE s.flags ∷ PENDING ∷ s.now ∷ 0 ∷ 0 ∷ 0
    ∷ s.hash0 ∷ s.hash1 ∷ s.hash2 ∷ s.hash3 ∷ []

unfoldable pub claim : Submission → Ledger → Done
claim s L = done (receipt_count L + 1) (new_receipt (receipt_of s) L)

unfoldable pub accept : Submission → Ledger → Done
accept s L = accept_row s.now s.signer (s.target - 1) L

unfoldable pub dispute : Submission → Ledger → Done
dispute s L = done 0 (close_receipt DISPUTED s.now s.signer (s.target - 1) L)

-- "operation 7 with bit 2 for accept, clear for dispute"
unfoldable pub reply : Submission → Ledger → Done
reply s L = cond (clear s ACCEPTS) (dispute s L) (accept s L)

unfoldable pub sweep : Submission → Ledger → Done
sweep s L = done (swept s.now s.amount L).closed (swept s.now s.amount L).tables

unfoldable pub freeze : Submission → Ledger → Done
freeze s L =
    done 0
    (cond (eqb s.target 0) (put_head SYSTEM_FROZEN (bit AUTO_OR_FREEZE s.flags) L)
    (put_wallet (wallet_row L s.target) FROZEN (bit AUTO_OR_FREEZE s.flags) L))

unfoldable pub caps : Submission → Ledger → Done
caps s L =
    done 0 (put_wallet (wallet_row L s.target) DAILY_CAP s.link (put_wallet (wallet_row L s.target) TX_CAP s.amount L))

unfoldable pub close : Submission → Ledger → Done
close s L = done 0 (put_wallet (wallet_row L s.target) FROZEN IS_CLOSED L)

-- what is no operation: no well-formed record has it
abbrev pub idle : Submission → Ledger → Done
idle s L = done 0 L

abbrev pub does7 : Form → Submission → Ledger → Done
does7 Old = accept
does7 Today = reply

abbrev pub does8 : Form → Submission → Ledger → Done
does8 Old = dispute
does8 Today = idle

-- the operations by their numbers, from 1 on
abbrev pub operations_by : Form → List (Submission → Ledger → Done)
operations_by form =
    grant ∷ transfer ∷ open_escrow ∷ release ∷ refund ∷ claim ∷ does7 form ∷ does8 form ∷ sweep ∷ freeze ∷ caps ∷ close ∷ []

unfoldable pub operate_by : Form → Submission → Ledger → Done
operate_by form s = get_or (operations_by form) (s.op - 1) idle s

abbrev pub operations : List (Submission → Ledger → Done)
operations = operations_by Today

abbrev pub operate : Submission → Ledger → Done
operate = operate_by Today

-- all but a sweep add one journal row
abbrev pub entry_of : Submission → ℕ → List ℕ
entry_of s word = s.signer ∷ s.nonce ∷ s.op ∷ s.target ∷ s.amount ∷ s.now ∷ word ∷ s.link ∷ []

unfoldable pub enter : Submission → ℕ → Ledger → Ledger
enter s word L = cond (eqb s.op SWEEP) L (new_entry (entry_of s word) L)

-- SETTLING: the operation, then the clock, then the journal
unfoldable pub settle_by : Form → Submission → Ledger → Done
settle_by form s L = let d = operate_by form s L in done d.word (enter s d.word (put_head CLOCK s.now d.after))

abbrev pub settle : Submission → Ledger → Done
settle = settle_by Today
