-- Section "Numbered answers, in order of check": one table, a row for each number. The order of check is that of the rows, not of the numbers:
-- 41 stands between 34 and 35, 43 and then 42 between 16 and 17. Each condition is exact by itself: where it speaks of a row, it says that the row is there.
-- Which operations reply to a claim is the form's; a name without a form is today's.
use Rattle.std.specs.Prelude.{List, [], ◌∷◌, ◌++◌, Bool, false, not, cond, ◌&&◌, ◌||◌, ℕ, ◌+◌, ◌-◌, eqb, ltb, leb}
use Rattle.rules.specs.Limits.{WALLET_LEN, RECEIPT_LEN, JOURNAL_LEN, MAX_AMOUNT_MICRO, MAX_GRANTED_MICRO, MAX_SWEEP_ROWS}
use Rattle.rules.specs.Limits.{MAX_SKEW_MS, MAX_ENVELOPE_MS, DAY_MS, MAX_HOLD_MS, MIN_ACCEPTANCE_MS, MAX_ACCEPTANCE_MS}
use Rattle.rules.specs.Limits.{GRANT, TRANSFER, OPEN, RELEASE, REFUND, CLAIM, REPLY, OLD_ACCEPT, OLD_DISPUTE, SWEEP, FREEZE, CAPS, CLOSE}
use Rattle.rules.specs.Limits.{SIGNATURE_HELD, ADMIN, ACCEPTS, REASON_GIVEN, SYSTEM_FROZEN, CLOCK, GRANTED, BALANCE, LOCKED, FROZEN, TX_CAP, DAILY_CAP, IS_FROZEN}
use Rattle.rules.specs.Limits.{FROM, TO, ESCROW_DEADLINE, ESCROW_STATE, REQUESTER, ACCEPTANCE_DEADLINE, RECEIPT_STATE, IS_OPEN, PENDING}
use Rattle.rules.specs.Limits.{SIGNER, NONCE, OPERATION, ENTRY_AMOUNT, SETTLED_AT}
use Rattle.rules.specs.Table.{word, some, sum, all}
use Rattle.rules.specs.Ledger.{Ledger, head, escrow, receipt, wallet_count, escrow_count, receipt_count, entry_count, has_wallet, wallet_of, written, full, lengths_right}
use Rattle.rules.specs.Wallets.{is_closed, open_to}
use Rattle.rules.specs.Record.{bit}
use Rattle.rules.specs.Sound.{sound, between}
use Rattle.rules.specs.declared.Form.{Form}
use Rattle.rules.specs.declared.Form.TheVariants.{Old, Today}
use Rattle.rules.specs.declared.Submission.{Submission}
use Rattle.rules.specs.declared.Read.{Read}

-- a row of the table: the number, and whether its condition holds
pub record Refusal : Type 0 where
  pub number : ℕ
  pub holds : Bool

abbrev pub row : ℕ → Bool → Refusal
row n b = record { number = n; holds = b }

-- the number of the first row that holds, or 0
abbrev pub first : List Refusal → ℕ
first [] = 0
first (r ∷ rs) = cond r.holds r.number (first rs)

abbrev pub one_of : List ℕ → ℕ → Bool
one_of [] x = false
one_of (y ∷ ys) x = eqb x y || one_of ys x

-- the operation is one of these, and the condition holds
abbrev pub on : Submission → List ℕ → Bool → Bool
on s ops b = one_of ops s.op && b

-- every operation but the sweep, of either form
abbrev pub signed : List ℕ
signed = GRANT ∷ TRANSFER ∷ OPEN ∷ RELEASE ∷ REFUND ∷ CLAIM ∷ REPLY ∷ OLD_DISPUTE ∷ FREEZE ∷ CAPS ∷ CLOSE ∷ []

abbrev pub clear : Submission → ℕ → Bool
clear s k = eqb (bit k s.flags) 0

-- one of n journal rows has signer and nonce
unfoldable pub seen_in : List ℕ → ℕ → ℕ → ℕ → Bool
seen_in journal n signer nonce = some n (λ i. eqb (word journal JOURNAL_LEN i SIGNER) signer && eqb (word journal JOURNAL_LEN i NONCE) nonce)

unfoldable pub seen : Ledger → ℕ → ℕ → Bool
seen L signer nonce = seen_in L.journal (entry_count L) signer nonce

-- the operations that the caps limit, and the daily cap counts
abbrev pub paying : List ℕ
paying = TRANSFER ∷ OPEN ∷ []

-- journal row i is the signer's transfer or open, told by its own words alone, and not older than 24 hours
abbrev pub counts : List ℕ → ℕ → ℕ → ℕ → Bool
counts journal signer now i =
    all
    (eqb (word journal JOURNAL_LEN i SIGNER) signer
    ∷ one_of paying (word journal JOURNAL_LEN i OPERATION)
    ∷ leb now (word journal JOURNAL_LEN i SETTLED_AT + DAY_MS)
    ∷ [])

-- the amounts of those of n journal rows, added up
unfoldable pub counted_of : List ℕ → ℕ → ℕ → ℕ → ℕ
counted_of journal n signer now = sum n (λ i. cond (counts journal signer now i) (word journal JOURNAL_LEN i ENTRY_AMOUNT) 0)

unfoldable pub counted : Ledger → ℕ → ℕ → ℕ
counted L signer now = counted_of L.journal (entry_count L) signer now

-- the signer has a wallet, and b holds of it
abbrev pub sender : Ledger → Submission → Bool → Bool
sender L s b = has_wallet L s.signer && b

-- escrow k is written, and b holds of it
abbrev pub of_escrow : Ledger → ℕ → Bool → Bool
of_escrow L k b = written (escrow_count L) k && b

abbrev pub of_receipt : Ledger → ℕ → Bool → Bool
of_receipt L k b = written (receipt_count L) k && b

-- the escrow in row i is open and not stale
abbrev pub releasable : Ledger → ℕ → ℕ → Bool
releasable L now i = eqb (escrow L i ESCROW_STATE) IS_OPEN && leb now (escrow L i ESCROW_DEADLINE)

-- a claim with a link
abbrev pub linked : Submission → Bool → Bool
linked s b = on s (CLAIM ∷ []) (not (eqb s.link 0) && b)

abbrev pub closing : List ℕ
closing = RELEASE ∷ REFUND ∷ []

-- the operations that name a wallet by the signer, and by the target. Target 0 of a freeze is the system, and no wallet of a sound ledger.
abbrev pub signs : List ℕ
signs = TRANSFER ∷ OPEN ∷ CLAIM ∷ []

abbrev pub targets : List ℕ
targets = GRANT ∷ TRANSFER ∷ OPEN ∷ CLAIM ∷ FREEZE ∷ CAPS ∷ CLOSE ∷ []

-- the wallet of id is there, and has balance, locked credits or an open escrow to it
abbrev pub not_empty : Ledger → ℕ → Bool
not_empty L id =
    has_wallet L id
    && (ltb 0 (wallet_of L id BALANCE)
    || (ltb 0 (wallet_of L id LOCKED)
    || open_to L.edition.escrow L.escrows (escrow_count L) id))

-- the requester's reply to a claim, and whether it disputes; one that doesn't accepts
abbrev pub replying_by : Form → List ℕ
replying_by Old = OLD_ACCEPT ∷ OLD_DISPUTE ∷ []
replying_by Today = REPLY ∷ []

abbrev pub disputes_by : Form → Submission → Bool
disputes_by Old s = eqb s.op OLD_DISPUTE
disputes_by Today s = eqb s.op REPLY && clear s ACCEPTS

abbrev pub replying : List ℕ
replying = replying_by Today

-- the lent tables and the record
unfoldable pub entry_refusals : Ledger → Read → List Refusal
entry_refusals L r =
    row 1 (not (lengths_right L))
    ∷ row 2 (not (sound L))
    ∷ row 3 (eqb r.number 3)
    ∷ []

-- clock, system, envelope and nonce
unfoldable pub envelope_refusals : Ledger → Submission → List Refusal
envelope_refusals L s =
    row 4 (ltb s.now (head L CLOCK))
    ∷ row 5 (between 1 9 s.op && eqb (head L SYSTEM_FROZEN) 1)
    ∷ row 6 (on s signed (clear s SIGNATURE_HELD))
    ∷ row 7 (on s (GRANT ∷ FREEZE ∷ CAPS ∷ CLOSE ∷ []) (clear s ADMIN))
    ∷ row 8 (on s signed (ltb (s.now + MAX_SKEW_MS) s.issued))
    ∷ row 9 (on s signed (ltb s.expires s.now))
    ∷ row 10 (on s signed (ltb (s.issued + MAX_ENVELOPE_MS) s.expires))
    ∷ row 11 (on s signed (seen L s.signer s.nonce))
    ∷ []

-- what the operation asks for
unfoldable pub operation_refusals_by : Form → Ledger → Submission → List Refusal
operation_refusals_by form L s =
    row 12
    (on s (GRANT ∷ TRANSFER ∷ OPEN ∷ []) (not (between 1 MAX_AMOUNT_MICRO s.amount))
    || (on s (SWEEP ∷ []) (not (between 1 MAX_SWEEP_ROWS s.amount))
    || on s (CAPS ∷ []) (ltb MAX_AMOUNT_MICRO s.amount || ltb MAX_AMOUNT_MICRO s.link)))
    ∷ row 13 (on s paying (not (has_wallet L s.signer)))
    ∷ row 14 (on s paying (sender L s (eqb (wallet_of L s.signer FROZEN) IS_FROZEN)))
    ∷ row 15 (on s (GRANT ∷ TRANSFER ∷ OPEN ∷ CLAIM ∷ []) (eqb s.target 0) || on s (TRANSFER ∷ OPEN ∷ CLAIM ∷ []) (eqb s.target s.signer))
    ∷ row 16 (on s (FREEZE ∷ []) (not (eqb s.target 0) && not (has_wallet L s.target)) || on s (CAPS ∷ CLOSE ∷ []) (not (has_wallet L s.target)))
    ∷ row 43 (on s signs (is_closed L s.signer) || on s targets (is_closed L s.target))
    ∷ row 42 (on s (CLOSE ∷ []) (not_empty L s.target))
    ∷ row 17 (on s paying (sender L s (ltb (wallet_of L s.signer BALANCE) s.amount)))
    ∷ row 18 (on s paying (sender L s (ltb (wallet_of L s.signer TX_CAP) s.amount)))
    ∷ row 19 (on s paying (sender L s (ltb (wallet_of L s.signer DAILY_CAP) (s.amount + counted L s.signer s.now))))
    ∷ row 20 (on s (OPEN ∷ []) (leb s.until s.now))
    ∷ row 21 (on s (OPEN ∷ []) (ltb (s.now + MAX_HOLD_MS) s.until))
    ∷ row 22 (on s (CLAIM ∷ []) (not (has_wallet L s.signer)))
    ∷ row 23 (on s (CLAIM ∷ []) (not (has_wallet L s.target)))
    ∷ row 24 (on s (CLAIM ∷ []) (ltb s.until (s.issued + MIN_ACCEPTANCE_MS)))
    ∷ row 25 (on s (CLAIM ∷ []) (ltb (s.issued + MAX_ACCEPTANCE_MS) s.until))
    ∷ row 26 (on s (CLAIM ∷ []) (ltb s.until s.now))
    ∷ row 27 (on s closing (not (written (escrow_count L) s.target)) || linked s (not (written (escrow_count L) s.link)))
    ∷ row 28 (on s closing (of_escrow L s.target (not (eqb s.signer (escrow L (s.target - 1) FROM)) && clear s ADMIN)))
    ∷ row 29
    (on s closing (of_escrow L s.target (not (releasable L s.now (s.target - 1))))
    || linked s (of_escrow L s.link (not (releasable L s.now (s.link - 1)))))
    ∷ row 30
    (linked s (of_escrow L s.link (not (eqb (escrow L (s.link - 1) FROM) s.target) || not (eqb (escrow L (s.link - 1) TO) s.signer))))
    ∷ row 31 (linked s (of_escrow L s.link (ltb (escrow L (s.link - 1) ESCROW_DEADLINE) s.until)))
    ∷ row 32 (on s (replying_by form) (not (written (receipt_count L) s.target)))
    ∷ row 33 (on s (replying_by form) (of_receipt L s.target (not (eqb s.signer (receipt L (s.target - 1) REQUESTER)))))
    ∷ row 34 (on s (replying_by form) (of_receipt L s.target (not (eqb (receipt L (s.target - 1) RECEIPT_STATE) PENDING))))
    ∷ row 41 (on s (replying_by form) (of_receipt L s.target (ltb (receipt L (s.target - 1) ACCEPTANCE_DEADLINE) s.now)))
    ∷ row 35 (disputes_by form s && clear s REASON_GIVEN)
    ∷ row 36 (on s (GRANT ∷ []) (ltb MAX_GRANTED_MICRO (head L GRANTED + s.amount)))
    ∷ row 37 (on s (GRANT ∷ TRANSFER ∷ OPEN ∷ []) (not (has_wallet L s.target) && full WALLET_LEN L.wallets (wallet_count L)))
    ∷ row 38 (on s (OPEN ∷ []) (full L.edition.escrow L.escrows (escrow_count L)))
    ∷ row 39 (on s (CLAIM ∷ []) (full RECEIPT_LEN L.receipts (receipt_count L)))
    ∷ row 40 (on s signed (full JOURNAL_LEN L.journal (entry_count L)))
    ∷ []

abbrev pub operation_refusals : Ledger → Submission → List Refusal
operation_refusals = operation_refusals_by Today

-- THE TABLE
unfoldable pub refusals_by : Form → Ledger → Read → List Refusal
refusals_by form L r = entry_refusals L r ++ (envelope_refusals L r.submission ++ operation_refusals_by form L r.submission)

abbrev pub refusals : Ledger → Read → List Refusal
refusals = refusals_by Today
