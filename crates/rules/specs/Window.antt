-- THE PROMISES of document 02, request 5: no objection after the window. Their proofs stand in proofs/, under the same names in small letters.
use Rattle.std.specs.Prelude.{◌≡◌, ◌≢◌, List, Bool, true, false, cond, not, ◌&&◌, ℕ, ◌-◌, ◌≤◌, ◌<◌, eqb}
use Rattle.rules.specs.Limits.{REPLY, ACCEPTS, ESCROW_DEADLINE, ESCROW_STATE, IS_OPEN, RELEASE_IMPOSSIBLE}
use Rattle.rules.specs.Limits.{REQUESTER, RECEIPT_LINK, ACCEPTANCE_DEADLINE, RECEIPT_STATE, RELEASE_CODE, PENDING}
use Rattle.rules.specs.Ledger.{Ledger, escrow, receipt, receipt_count, written}
use Rattle.rules.specs.Record.{read_of}
use Rattle.rules.specs.Refusals.{one_of, clear, replying}
use Rattle.rules.specs.Submit.{submit}
use Rattle.rules.specs.History.{Call, after}
use Rattle.rules.specs.Promises.{Lent, started, Refused}
use Rattle.rules.specs.declared.Submission.{Submission}

-- "ACCEPT AND DISPUTE ARE NOW REFUSED WHEN THE RECEIPT'S ACCEPTANCE DEADLINE < NOW": on any ledger, and a refusal changes nothing
abbrev pub LateRepliesRefused : Type 0
LateRepliesRefused =
    (L : Ledger) (b : List ℕ) → one_of replying (read_of b).submission.op ≡ true →
    receipt L ((read_of b).submission.target - 1) ACCEPTANCE_DEADLINE < (read_of b).submission.now → Refused L b

-- a reply to a receipt that is there, by its requester and while it is pending, but after its deadline
pub record Late (L : Ledger) (s : Submission) : Type 0 where
  pub reply : one_of replying s.op ≡ true
  pub there : written (receipt_count L) s.target ≡ true
  pub own : receipt L (s.target - 1) REQUESTER ≡ s.signer
  pub pending : receipt L (s.target - 1) RECEIPT_STATE ≡ PENDING
  pub late : receipt L (s.target - 1) ACCEPTANCE_DEADLINE < s.now

-- "41 STANDS BETWEEN 34 AND 35, SO A CLOSED RECEIPT STILL ANSWERS 34": whatever is answered 41 is such a reply, and no other
abbrev pub LateOnly : Type 0
LateOnly = (L : Ledger) (b : List ℕ) → (submit L b).number ≡ 41 → Late L (read_of b).submission

-- the receipt in row i is linked to an escrow, and that is open; it is linked to one, and that is closed
abbrev pub linked_to_open : Ledger → ℕ → Bool
linked_to_open L i = not (eqb (receipt L i RECEIPT_LINK) 0) && eqb (escrow L (receipt L i RECEIPT_LINK - 1) ESCROW_STATE) IS_OPEN

abbrev pub linked_to_closed : Ledger → ℕ → Bool
linked_to_closed L i = not (eqb (receipt L i RECEIPT_LINK) 0) && not (eqb (escrow L (receipt L i RECEIPT_LINK - 1) ESCROW_STATE) IS_OPEN)

-- the receipt in row i is accepted in time for its escrow: that is not stale, it is paid out and is the word exactly if it is open, and 29 is stored
-- exactly if it is closed
pub record AcceptedInTime (L : Ledger) (b : List ℕ) (i : ℕ) : Type 0 where
  pub not_stale : receipt L i RECEIPT_LINK ≢ 0 → (read_of b).submission.now ≤ escrow L (receipt L i RECEIPT_LINK - 1) ESCROW_DEADLINE
  pub word : (submit L b).word ≡ cond (linked_to_open L i) (receipt L i RECEIPT_LINK) 0
  pub code : receipt (submit L b).left i RELEASE_CODE ≡ cond (linked_to_closed L i) RELEASE_IMPOSSIBLE 0

-- AN ACCEPT NEVER MEETS A STALE ESCROW on a ledger as in demand 3: a claim's deadline is not after its escrow's (31), and an accept not after the
-- claim's (41). A sweep that accepts comes after the deadline, and may.
abbrev pub AcceptsInTime : Type 0
AcceptsInTime =
    (L : Ledger) → Lent L → (calls : List Call) (b : List ℕ) → (submit (after (started L) calls) b).number ≡ 0 →
    (read_of b).submission.op ≡ REPLY → clear (read_of b).submission ACCEPTS ≡ false →
    AcceptedInTime (after (started L) calls) b ((read_of b).submission.target - 1)
