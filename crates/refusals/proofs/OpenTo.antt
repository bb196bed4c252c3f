-- Whether an escrow to an id is open: what a fold of the tests of the rows gives is what the definition says of them.
use mathlib.Core.Path.{◌≡◌, refl, sym, ap, ◌∙◌}
use mathlib.Core.List.{List, map}
use mathlib.Core.Bool.{Bool, false, ◌&&◌, ◌||◌}
use Prim.Native.Nat.{ℕ, zero, suc}
use native.Mathlib.Numerals.{add-one}
use native.Mathlib.Omega.{arith}
use lib.Dec.{eqb}
use Rattle.std.specs.List.{fold, range_with_len}
use Rattle.std.proofs.lemmas.List.Folds.{fold-map}
use Rattle.std.proofs.lemmas.List.FromFn.{map-range_with_len_more}
use Rattle.std.proofs.lemmas.List.Sums.{fold_push}
use Rattle.rules.specs.Limits.{TO, ESCROW_STATE, IS_OPEN}
use Rattle.rules.specs.Table.{word, some}
use Rattle.rules.specs.Wallets.{open_to}

some_fold : (n : ℕ) (p : ℕ → Bool) → fold (λ b i. b || p i) false (range_with_len 0 n) ≡ some n p
unfolding some
some_fold n p = sym (fold-map ◌||◌ p false (range_with_len 0 n)) ∙ go n
  where
    tests : ℕ → Bool
    tests n = fold ◌||◌ false (map p (range_with_len 0 n))

    go : (n : ℕ) → tests n ≡ some n p
    go zero = refl
    go (suc n) = ap tests (sym (add-one n)) ∙ ap (fold ◌||◌ false) (map-range_with_len_more p 0 n n (omega arith))
        ∙ fold_push ◌||◌ false (map p (range_with_len 0 n)) (p n) ∙ ap (λ b. b || p n) (go n)

-- the escrow in row i is to the id, and open
abbrev pub opens : ℕ → List ℕ → ℕ → ℕ → Bool
opens len e id i = eqb (word e len i TO) id && eqb (word e len i ESCROW_STATE) IS_OPEN

pub open_fold : (len : ℕ) (e : List ℕ) (n id : ℕ) → fold (λ b i. b || opens len e id i) false (range_with_len 0 n) ≡ open_to len e n id
unfolding open_to
open_fold len e n id = some_fold n (opens len e id)
