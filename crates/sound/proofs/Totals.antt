-- The total that counts down from what was granted: more than was granted, and what is left at the end.
use mathlib.Core.Path.{◌≡◌, refl, sym}
use mathlib.Core.Bool.{Bool, true, false, ◌&&◌, and-true}
use mathlib.Core.List.{List}
use Prim.Native.Nat.{ℕ, ◌+◌, ◌≤◌, ◌<◌}
use native.Mathlib.Omega.{arith}
use lib.Dec.{eqb, leb}
use borrow.Author.Tests.{eq-eqb, ne_eqb, eqb-true, eqb-false, le-leb}
use Rattle.rules.specs.Limits.{WALLET_LEN, MAX_GRANTED_MICRO, BALANCE, LOCKED}
use Rattle.rules.specs.Table.{word, sum}
use Rattle.rules.specs.Sound.{credits}
use Rattle.rules.proofs.Bools.{and_none_fst}
use Rattle.rules.proofs.Counts.{sum_step, sum_part}
use Rattle.sound.specs.Parts.{wallets_in}

-- the credits of wallet i
abbrev pub both : List ℕ → ℕ → ℕ
both w i = word w WALLET_LEN i BALANCE + word w WALLET_LEN i LOCKED

module _ (w : List ℕ) (n granted : ℕ) where
  -- a row below n takes the sum past what was granted
  pub credits_more : (i : ℕ) → i < n → granted < sum i (both w) + both w i → false ≡ (eqb (credits (wallets_in w n)) granted && leb granted MAX_GRANTED_MICRO)
  unfolding credits
  credits_more i h o =
      sym (and_none_fst (eqb (sum n (both w)) granted) (leb granted MAX_GRANTED_MICRO)
      (ne_eqb (sum n (both w)) granted (omega (arith, sum_step i (both w), sum_part (i + 1) n (both w) (omega arith)))))

  pub credits_left : (left : ℕ) → left + sum n (both w) ≡ granted → granted ≤ MAX_GRANTED_MICRO
      → eqb left 0 ≡ (eqb (credits (wallets_in w n)) granted && leb granted MAX_GRANTED_MICRO)
  unfolding credits
  credits_left left e g = rw (le-leb _ _ g, and-true) (go (eqb left 0) refl)
    where
      go : (b : Bool) → eqb left 0 ≡ b → b ≡ eqb (sum n (both w)) granted
      go true z = let y : left ≡ 0 = eqb-true left 0 z in sym (eq-eqb (sum n (both w)) granted (omega arith))
      go false z = let y : left ≡ 0 → ⊥ = eqb-false left 0 z in sym (ne_eqb (sum n (both w)) granted (omega arith))
