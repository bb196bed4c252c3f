-- A wallet that is live is found so, and its number is that of its row; and one that is written is not missing.
use mathlib.Core.Path.{◌≡◌, sym, ◌∙◌}
use mathlib.Core.List.{List}
use mathlib.Core.Bool.{false}
use Prim.Native.Nat.{ℕ, ◌+◌, ◌<◌}
use native.Mathlib.Omega.{arith}
use borrow.Author.Tests.{lt-ltb, ltb-false}
use Rattle.rules.specs.Ledger.{row_of}
use Rattle.rules.specs.Wallets.{numbered, closed_at, look_up}
use Rattle.rules.specs.declared.WalletNumber.{WalletNumber}
use Rattle.rules.specs.declared.WalletState.{WalletState}
use Rattle.rules.specs.declared.WalletState.TheVariants.{Missing, Live}
use Rattle.rules.proofs.Wallets.{look_says}

module _ (w : List ℕ) (n id : ℕ) (x : WalletState) (e : x ≡ look_up w n id) where
  pub live_row : (k : WalletNumber) → x ≡ Live k → k.0 ≡ row_of w n id + 1
  live_row k f = (look_says w n id (Live k) (sym f ∙ e)).2

  pub not_missing : row_of w n id < n → x ≡ Missing → ⊥
  not_missing l f = omega (arith, ltb-false (row_of w n id) n (look_says w n id Missing (sym f ∙ e)))

  pub is_live : row_of w n id < n → closed_at w (row_of w n id) ≡ false → x ≡ Live (numbered (row_of w n id))
  unfolding look_up
  is_live there unclosed = e ∙ rw (lt-ltb (row_of w n id) n there, unclosed)
