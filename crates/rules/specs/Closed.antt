-- THE PROMISES of document 02, request 6: closed wallets. Their proofs stand in proofs/, under the same names in small letters.
use Rattle.std.specs.Prelude.{◌≡◌, List, [], ◌∷◌, true, false, ℕ, ◌-◌, ◌<◌}
use Rattle.rules.specs.Limits.{WALLET_LEN, BALANCE, LOCKED, GRANT, TRANSFER, OPEN, CLAIM, FREEZE, CAPS, CLOSE}
use Rattle.rules.specs.Ledger.{Ledger, wallet, escrow_count, wallet_row}
use Rattle.rules.specs.Wallets.{numbered, look_up, looked_up, open_to, Means}
use Rattle.rules.specs.Record.{read_of}
use Rattle.rules.specs.Refusals.{one_of, not_empty}
use Rattle.rules.specs.Submit.{submit}
use Rattle.rules.specs.History.{Call, after, said, unbroken}
use Rattle.rules.specs.Promises.{Lent, started, Refused}
use Rattle.rules.specs.declared.Submission.{Submission}
use Rattle.rules.specs.declared.WalletNumber.{WalletNumber}
use Rattle.rules.specs.declared.WalletState.{WalletState}
use Rattle.rules.specs.declared.WalletState.TheVariants.{Live, Closed}

-- "LOOKING UP A WALLET MUST FROM NOW ON TELL A CLOSED WALLET FROM A MISSING AND A LIVE ONE": what is found means what the paper says, and nothing
-- else that is found would
abbrev pub LookUpMeans : Type 0
LookUpMeans = (wallets : List ℕ) (n id : ℕ) → Means wallets n id (look_up wallets n id)

abbrev pub LookUpOnly : Type 0
LookUpOnly = (wallets : List ℕ) (n id : ℕ) (state : WalletState) → Means wallets n id state → state ≡ look_up wallets n id

-- A RECORD THAT NAMES A CLOSED WALLET IS REFUSED, on any ledger: the signer in 2, 3, 6; the target in 1, 2, 3, 6, 10, 11, 12
abbrev pub ClosedSignerRefused : Type 0
ClosedSignerRefused =
    (L : Ledger) (b : List ℕ) (k : WalletNumber) → one_of (TRANSFER ∷ OPEN ∷ CLAIM ∷ []) (read_of b).submission.op ≡ true →
    looked_up L (read_of b).submission.signer ≡ Closed k → Refused L b

abbrev pub ClosedTargetRefused : Type 0
ClosedTargetRefused =
    (L : Ledger) (b : List ℕ) (k : WalletNumber) → one_of (GRANT ∷ TRANSFER ∷ OPEN ∷ CLAIM ∷ FREEZE ∷ CAPS ∷ CLOSE ∷ []) (read_of b).submission.op ≡ true →
    looked_up L (read_of b).submission.target ≡ Closed k → Refused L b

-- a close of a wallet that is live, with balance, locked credits or an open escrow to it
pub record InUse (L : Ledger) (s : Submission) : Type 0 where
  pub closes : s.op ≡ CLOSE
  pub live : looked_up L s.target ≡ Live (numbered (wallet_row L s.target))
  pub used : not_empty L s.target ≡ true

-- 42 "FOLLOWS IT", 43: whatever is answered 42 is such a close, and no other
abbrev pub InUseOnly : Type 0
InUseOnly = (L : Ledger) (b : List ℕ) → (submit L b).number ≡ 42 → InUse L (read_of b).submission

-- "THE FROZEN WORD BECOMES 2": once a close has settled, its target is closed, in the row that it had
abbrev pub CloseCloses : Type 0
CloseCloses =
    (L : Ledger) (b : List ℕ) → (submit L b).number ≡ 0 → (read_of b).submission.op ≡ CLOSE →
    looked_up (submit L b).left (read_of b).submission.target ≡ Closed (numbered (wallet_row L (read_of b).submission.target))

-- the wallet of id is closed, in row number k, with nothing in it and nothing on its way to it; and its row is what it was in K
pub record Shut (K L : Ledger) (id : ℕ) (k : WalletNumber) : Type 0 where
  pub closed : looked_up L id ≡ Closed k
  pub balance : wallet L (k.0 - 1) BALANCE ≡ 0
  pub locked : wallet L (k.0 - 1) LOCKED ≡ 0
  pub nothing_to_it : open_to L.edition.escrow L.escrows (escrow_count L) id ≡ false
  pub same_row : (j : ℕ) → j < WALLET_LEN → wallet L (k.0 - 1) j ≡ wallet K (k.0 - 1) j

-- ONCE A WALLET IS CLOSED on a ledger as in demand 3, it is closed after any further calls, as long as the ledger is not started afresh: with balance
-- and locked 0, no open escrow to it, and no word of its row changed
abbrev pub ClosedStays : Type 0
ClosedStays =
    (L : Ledger) → Lent L → (calls further : List Call) (id : ℕ) (k : WalletNumber) →
    looked_up (after (started L) calls) id ≡ Closed k →
    unbroken (said (after (started L) calls) further) ≡ true →
    Shut (after (started L) calls) (after (after (started L) calls) further) id k
