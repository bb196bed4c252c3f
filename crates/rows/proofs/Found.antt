-- Looking up a wallet: that the code's three answers are the definition's, by the row that the search gives; and of a number that was found, which
-- row it names, and that it names one.
use mathlib.Core.Path.{◌≡◌, refl, sym, ap, ◌∙◌}
use mathlib.Core.Logic.{◌≢◌}
use mathlib.Core.List.{List}
use Prim.Native.Nat.{ℕ, ◌+◌, ◌-◌, ◌≤◌, ◌<◌}
use native.Mathlib.Omega.{arith}
use borrow.Author.Tests.{eqb-true, eqb-false, ltb-true, ltb-false}
use Rattle.rules.specs.Limits.{WALLET_LEN, MAX_WALLETS, FROZEN, IS_CLOSED}
use Rattle.rules.specs.Table.{word}
use Rattle.rules.specs.Ledger.{row_of}
use Rattle.rules.specs.Wallets.{numbered, look_up}
use Rattle.rules.specs.declared.WalletState.{WalletState}
use Rattle.rules.specs.declared.WalletState.TheVariants.{Missing, Live, Closed}
use Rattle.rules.proofs.Wallets.{look_case}
use Rattle.rows.specs.Numbered.{Names}
use Rattle.rows.proofs.Laws.{row_most}

-- ---- the three answers

module _ (w : List ℕ) (n id row : ℕ) (at : row ≡ row_of w n id) where
  pub found_missing : n ≤ row → Missing ≡ look_up w n id
  found_missing h =
      look_case (λ (x : WalletState). Missing ≡ x) w n id (λ m. refl) (λ t o. absurd (omega (arith, ltb-true (row_of w n id) n t)))
      (λ t o. absurd (omega (arith, ltb-true (row_of w n id) n t)))

  word_at : word w WALLET_LEN row FROZEN ≡ word w WALLET_LEN (row_of w n id) FROZEN
  word_at = ap (λ (i : ℕ). word w WALLET_LEN i FROZEN) at

  pub found_closed : row < n → word w WALLET_LEN row FROZEN ≡ IS_CLOSED → Closed (numbered row) ≡ look_up w n id
  found_closed l h =
      look_case (λ (x : WalletState). Closed (numbered row) ≡ x) w n id (λ m. absurd (omega (arith, ltb-false (row_of w n id) n m)))
      (λ t o. absurd (eqb-false _ _ o (sym word_at ∙ h))) (λ t o. ap (λ (i : ℕ). Closed (numbered i)) at)

  pub found_live : row < n → word w WALLET_LEN row FROZEN ≢ IS_CLOSED → Live (numbered row) ≡ look_up w n id
  found_live l h =
      look_case (λ (x : WalletState). Live (numbered row) ≡ x) w n id (λ m. absurd (omega (arith, ltb-false (row_of w n id) n m)))
      (λ t o. ap (λ (i : ℕ). Live (numbered i)) at) (λ t o. absurd (h (word_at ∙ eqb-true _ _ o)))

-- ---- a number that was found

-- the row that it names
pub row_found : (number row : ℕ) → number ≡ row + 1 → number - 1 ≡ row
row_found number row e = omega arith

-- it names a row
pub names_found : (w : List ℕ) (n id number : ℕ) → n ≤ MAX_WALLETS → number ≡ row_of w n id + 1 → Names number
names_found w n id number few e = record { low = omega arith; high = omega (arith, row_most w n id refl) }
