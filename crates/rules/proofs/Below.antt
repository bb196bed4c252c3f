-- A rule of every number below n, from one test that the checker computes at each of them.
use mathlib.Core.Path.{◌≡◌, refl, sym, subst}
use mathlib.Core.Bool.{Bool, true, false, ◌&&◌}
use Prim.Native.Nat.{ℕ, zero, suc, ◌<◌}
use native.Mathlib.Nat.{not-suc-le-zero}
use native.Mathlib.Omega.{arith}
use lib.Dec.{T, eqb, eqb→eq}
use borrow.Author.Tests.{eqb-false}
use Rattle.rules.specs.Table.{every}

both_left : (a b : Bool) → T (a && b) → T a
both_left true b t = tt
both_left false b t = t

both_right : (a b : Bool) → T (a && b) → T b
both_right true b t = t
both_right false b t = absurd t

pick : (p : ℕ → Bool) (n k : ℕ) (e : Bool) → eqb k n ≡ e → T (p n) → (k < n → T (p k)) → k < suc n → T (p k)
pick p n k true e t r h = subst (λ (m : ℕ). T (p m)) (sym (eqb→eq k n (subst T (sym e) tt))) t
pick p n k false e t r h = let d : k ≡ n → ⊥ = eqb-false k n e in r (omega arith)

pub below : (p : ℕ → Bool) (n : ℕ) → T (every n p) → (k : ℕ) → k < n → T (p k)
unfolding every
below p zero t k h = absurd (not-suc-le-zero h)
below p (suc n) t k h = pick p n k (eqb k n) refl (both_right (every n p) (p n) t) (below p n (both_left (every n p) (p n) t) k) h
