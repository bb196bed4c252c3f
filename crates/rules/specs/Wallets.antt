-- Document 02, request 6: "Looking up a wallet must from now on tell a closed wallet from a missing and a live one". What looking one up finds, what
-- each case means, and each case in numbers. A closed wallet's frozen word is 2; a frozen wallet is live.
use Rattle.std.specs.Prelude.{◌≡◌, ◌≢◌, List, Bool, cond, ◌&&◌, ℕ, ◌+◌, ◌-◌, ◌≤◌, ◌<◌, eqb, ltb}
use Rattle.rules.specs.Limits.{WALLET_LEN, ID, FROZEN, IS_CLOSED, TO, ESCROW_STATE, IS_OPEN, WALLET_MISSING, WALLET_LIVE, WALLET_CLOSED}
use Rattle.rules.specs.Table.{word, some}
use Rattle.rules.specs.Ledger.{Ledger, wallet_count, row_of, wallet_row, has_wallet}
use Rattle.rules.specs.declared.WalletNumber.{WalletNumber}
use Rattle.rules.specs.declared.WalletState.{WalletState}
use Rattle.rules.specs.declared.WalletState.TheVariants.{Missing, Live, Closed}
use Rattle.rules.specs.declared.Standing.{Standing}

-- the number of a wallet's row
abbrev pub numbered : ℕ → WalletNumber
numbered i = record { 0 = i + 1 }

-- the wallet in row i is closed
abbrev pub closed_at : List ℕ → ℕ → Bool
closed_at wallets i = eqb (word wallets WALLET_LEN i FROZEN) IS_CLOSED

-- LOOKING UP A WALLET, among n written ones
unfoldable pub look_up : List ℕ → ℕ → ℕ → WalletState
look_up wallets n id =
    let i = row_of wallets n id in
    cond (ltb i n) (cond (closed_at wallets i) (Closed (numbered i)) (Live (numbered i))) Missing

abbrev pub looked_up : Ledger → ℕ → WalletState
looked_up L id = look_up L.wallets (wallet_count L) id

-- the wallet of id is there, and closed
abbrev pub is_closed : Ledger → ℕ → Bool
is_closed L id = has_wallet L id && closed_at L.wallets (wallet_row L id)

-- one of n escrows to the id is open, stale or not
unfoldable pub open_to : ℕ → List ℕ → ℕ → ℕ → Bool
open_to len escrows n id = some n (λ i. eqb (word escrows len i TO) id && eqb (word escrows len i ESCROW_STATE) IS_OPEN)

-- ---- What each case means

-- k is the number of the first of n written wallets that has the id
pub record First (wallets : List ℕ) (n id k : ℕ) : Type 0 where
  pub low : 1 ≤ k
  pub high : k ≤ n
  pub has : word wallets WALLET_LEN (k - 1) ID ≡ id
  pub earlier : (i : ℕ) → i < k - 1 → word wallets WALLET_LEN i ID ≢ id

abbrev pub Means : List ℕ → ℕ → ℕ → WalletState → Type 0
Means wallets n id Missing = (i : ℕ) → i < n → word wallets WALLET_LEN i ID ≢ id
Means wallets n id (Live k) = First wallets n id k.0 × (word wallets WALLET_LEN (k.0 - 1) FROZEN ≢ IS_CLOSED)
Means wallets n id (Closed k) = First wallets n id k.0 × (word wallets WALLET_LEN (k.0 - 1) FROZEN ≡ IS_CLOSED)

-- ---- Each case in numbers

abbrev pub standing : ℕ → ℕ → Standing
standing state number = record { state = state; number = number }

abbrev pub standing_of : WalletState → Standing
standing_of Missing = standing WALLET_MISSING 0
standing_of (Live k) = standing WALLET_LIVE k.0
standing_of (Closed k) = standing WALLET_CLOSED k.0
