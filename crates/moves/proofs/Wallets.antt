-- Wallets under the moves: the number that looking one up gives, a missing wallet that is made, and credits that move from one to another.
use mathlib.Core.Path.{◌≡◌, sym, ◌∙◌}
use mathlib.Core.Logic.{◌≢◌}
use mathlib.Core.List.{List}
use mathlib.Core.Bool.{true, false}
use Prim.Native.Nat.{ℕ, ◌+◌, ◌-◌, ◌<◌}
use native.Mathlib.Omega.{arith}
use lib.ListN.{get_or, set}
use lib.Dec.{ltb}
use borrow.Author.Tests.{ltb-false}
use Rattle.rules.specs.Limits.{WALLET_LEN, WALLETS, ID}
use Rattle.rules.specs.Table.{word, put_row}
use Rattle.rules.specs.Ledger.{Ledger, row_of, put_head, put_wallet, new_wallet}
use Rattle.rules.specs.Settle.{blank_wallet, ensure_wallet, raise, lower}
use Rattle.rules.specs.Wallets.{look_up}
use Rattle.rules.specs.declared.WalletNumber.{WalletNumber}
use Rattle.rules.specs.declared.WalletState.{WalletState}
use Rattle.rules.specs.declared.WalletState.TheVariants.{Missing, Live, Closed}
use Rattle.rules.proofs.Wallets.{look_says}
use Rattle.rules.proofs.Accounts.{row_le, row_put}
use Rattle.rules.proofs.UpTo.{up_to_wallets}
use Rattle.rows.specs.Numbered.{Names}
use Rattle.moves.specs.Needs.{Counted, row_in, more, less}

-- the number of a counted wallet, or of the next one: it is one more than the row, and names it
pub row_at : (h w : List ℕ) (id number : ℕ) → number ≡ row_in h w id + 1 → number - 1 ≡ row_in h w id
row_at h w id number x = omega arith

pub wallet_named : (h w : List ℕ) (id number : ℕ) → Counted h w → number ≡ row_in h w id + 1 → Names number
wallet_named h w id number c x = record { low = omega arith; high = omega (arith, c.most, row_le w (get_or h WALLETS 0) id) }

-- a wallet that is there, and one that is made
pub ensured_found :
    (K : Ledger) (h w : List ℕ) (id : ℕ) → ltb (row_in h w id) (get_or h WALLETS 0) ≡ true
    → up_to_wallets K h w ≡ ensure_wallet id (up_to_wallets K h w)
unfolding ensure_wallet
ensured_found K h w id l = rw l

pub ensured_new :
    (K : Ledger) (h w h' w' : List ℕ) (id : ℕ)
    → ltb (row_in h w id) (get_or h WALLETS 0) ≡ false
    → h' ≡ set h WALLETS (get_or h WALLETS 0 + 1)
    → w' ≡ put_row w WALLET_LEN (get_or h WALLETS 0) (blank_wallet id)
    → up_to_wallets K h' w' ≡ ensure_wallet id (up_to_wallets K h w)
unfolding ensure_wallet new_wallet put_head
ensured_new K h w h' w' id l p q = rw (l, p, q)

-- a missing wallet's number is that of the next row
pub next_row : (w : List ℕ) (n id : ℕ) → ltb (row_of w n id) n ≡ false → n + 1 ≡ row_of w n id + 1
next_row w n id l = omega (arith, ltb-false (row_of w n id) n l, row_le w n id)

-- the number that looking a wallet up gives, by what is found: a missing one is looked for behind the last row
module _ (w : List ℕ) (n id : ℕ) (x : WalletState) (e : x ≡ look_up w n id) where
  pub number_missing : x ≡ Missing → n + 1 ≡ row_of w n id + 1
  number_missing f = next_row w n id (look_says w n id Missing (sym f ∙ e))

  pub number_live : (k : WalletNumber) → x ≡ Live k → k.0 ≡ row_of w n id + 1
  number_live k f = (look_says w n id (Live k) (sym f ∙ e)).2

  pub number_closed : (k : WalletNumber) → x ≡ Closed k → k.0 ≡ row_of w n id + 1
  number_closed k f = (look_says w n id (Closed k) (sym f ∙ e)).2

-- and the tables of one that is there stay as they are
module _ (K : Ledger) (h w : List ℕ) (id : ℕ) (x : WalletState) (k : WalletNumber) (e : x ≡ look_up w (get_or h WALLETS 0) id) where
  pub ensured_live : x ≡ Live k → up_to_wallets K h w ≡ ensure_wallet id (up_to_wallets K h w)
  ensured_live f = ensured_found K h w id (look_says w (get_or h WALLETS 0) id (Live k) (sym f ∙ e)).0

  pub ensured_closed : x ≡ Closed k → up_to_wallets K h w ≡ ensure_wallet id (up_to_wallets K h w)
  ensured_closed f = ensured_found K h w id (look_says w (get_or h WALLETS 0) id (Closed k) (sym f ∙ e)).0

-- what is known of a wallet that is looked up
pub ruleset looked_up = (number_missing, number_live, number_closed, ensured_live, ensured_closed)

-- CREDITS MOVE: less in the one wallet and more in the other, as the definitions look them up; neither is somewhere else afterwards
pub moved :
    (K : Ledger) (h w w₁ : List ℕ) (id from k other to j amount : ℕ)
    → k < WALLET_LEN
    → ID ≢ k
    → from ≡ row_in h w id + 1
    → to ≡ row_in h w other + 1
    → w₁ ≡ more (less w (from - 1) k amount) (to - 1) j amount
    → up_to_wallets K h w₁ ≡ raise j other amount (lower k id amount (up_to_wallets K h w))
unfolding raise lower put_wallet
moved K h w w₁ id from k other to j amount k< k≢ x y z =
    let i : ℕ = row_in h w id in
    rw (z, row_at h w id from x, row_at h w other to y, row_put w (get_or h WALLETS 0) i k (word w WALLET_LEN i k - amount) k< k≢ other)
