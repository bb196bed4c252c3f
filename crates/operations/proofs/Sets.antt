-- Operations that set words and move no credits: a receipt claimed, a flag, the caps, a wallet closed.
use mathlib.Core.Path.{◌≡◌}
use mathlib.Core.List.{List, [], ◌∷◌}
use Prim.Native.Nat.{ℕ, ◌+◌, ◌-◌, ◌<◌, ◌^◌}
use lib.ListN.{get_or, set}
use borrow.Author.Tests.{eq-eqb, ne_eqb}
use Rattle.rules.specs.Limits.{WALLET_LEN, RECEIPT_LEN, SYSTEM_FROZEN, RECEIPTS, FROZEN, TX_CAP, DAILY_CAP, IS_CLOSED, PENDING, AUTO_OR_FREEZE}
use Rattle.rules.specs.Table.{put, put_row}
use Rattle.rules.specs.Ledger.{Ledger, set_header, set_receipts, put_head, put_wallet, new_receipt}
use Rattle.rules.specs.Record.{bit}
use Rattle.rules.specs.Settle.{claim, freeze, caps, close, done}
use Rattle.rules.specs.declared.Submission.{Submission}
use Rattle.rules.proofs.UpTo.{up_to_wallets}
use Rattle.rows.specs.Numbered.{Names}
use Rattle.moves.specs.Needs.{Counted, row_in}
use Rattle.moves.proofs.Wallets.{row_at, wallet_named}

pub claimed :
    (K : Ledger) (h r h₁ r₁ : List ℕ) (s : Submission) (auto number : ℕ)
    → auto ≡ bit AUTO_OR_FREEZE s.flags
    → number ≡ get_or h RECEIPTS 0 + 1
    → h₁ ≡ set h RECEIPTS (get_or h RECEIPTS 0 + 1)
    → r₁ ≡ put_row r RECEIPT_LEN (get_or h RECEIPTS 0)
    (s.signer ∷ s.target ∷ s.link ∷ s.until ∷ auto ∷ PENDING ∷ s.now ∷ 0 ∷ 0 ∷ 0 ∷ s.hash0 ∷ s.hash1 ∷ s.hash2 ∷ s.hash3 ∷ [])
    → done number (set_receipts r₁ (set_header h₁ K)) ≡ claim s (set_receipts r (set_header h K))
unfolding claim new_receipt put_head
claimed K h r h₁ r₁ s auto number a n x y = rw (n, x, y, a)

pub system_frozen :
    (K : Ledger) (h w : List ℕ) (s : Submission) (frozen : ℕ)
    → frozen ≡ bit AUTO_OR_FREEZE s.flags
    → s.target ≡ 0
    → done 0 (up_to_wallets K (set h SYSTEM_FROZEN frozen) w) ≡ freeze s (up_to_wallets K h w)
unfolding freeze put_head
system_frozen K h w s frozen f z = rw (eq-eqb _ _ z, f)

pub wallet_frozen :
    (K : Ledger) (h w w₁ : List ℕ) (s : Submission) (frozen target : ℕ)
    → frozen ≡ bit AUTO_OR_FREEZE s.flags
    → (s.target ≡ 0 → ⊥)
    → target ≡ row_in h w s.target + 1
    → w₁ ≡ put w WALLET_LEN (target - 1) FROZEN frozen
    → done 0 (up_to_wallets K h w₁) ≡ freeze s (up_to_wallets K h w)
unfolding freeze put_wallet
wallet_frozen K h w w₁ s frozen target f z x y = rw (ne_eqb _ _ z, y, row_at h w s.target target x, f)

pub capped :
    (K : Ledger) (h w w₁ w₂ : List ℕ) (s : Submission) (target : ℕ)
    → target ≡ row_in h w s.target + 1
    → w₁ ≡ put w WALLET_LEN (target - 1) TX_CAP s.amount
    → w₂ ≡ put w₁ WALLET_LEN (target - 1) DAILY_CAP s.link
    → done 0 (up_to_wallets K h w₂) ≡ caps s (up_to_wallets K h w)
unfolding caps put_wallet
capped K h w w₁ w₂ s target x y z = rw (z, y, row_at h w s.target target x)

pub shut :
    (K : Ledger) (h w w₁ : List ℕ) (s : Submission) (target : ℕ)
    → target ≡ row_in h w s.target + 1
    → w₁ ≡ put w WALLET_LEN (target - 1) FROZEN IS_CLOSED
    → done 0 (up_to_wallets K h w₁) ≡ close s (up_to_wallets K h w)
unfolding close put_wallet
shut K h w w₁ s target x y = rw (y, row_at h w s.target target x)

-- a word of the target's wallet can be set
pub can_set : (h w : List ℕ) (id target k : ℕ) → Counted h w → target ≡ row_in h w id + 1 → k < 2 ^ 16 → Names target × (k < 2 ^ 16)
can_set h w id target k c x l = (wallet_named h w id target c x, l)
