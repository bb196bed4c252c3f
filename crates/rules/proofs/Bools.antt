-- Laws of tests: a list of them joined by `all`, and what `&&`, `||` and `cond` say of their parts.
use mathlib.Core.Path.{◌≡◌, refl}
use mathlib.Core.List.{List, [], ◌∷◌}
use mathlib.Core.Bool.{Bool, true, false, not, cond, ◌&&◌, ◌||◌, true≢false, false≢true}
use Prim.Native.Nat.{ℕ, zero, suc}
use lib.ListN.{get_or}
use Rattle.rules.specs.Table.{all}

pub and_intro : (a b : Bool) → a ≡ true → b ≡ true → a && b ≡ true
and_intro a b p q = rw (p, q)

pub and_fst : (a b : Bool) → a && b ≡ true → a ≡ true
and_fst true b e = refl
and_fst false b e = e

pub and_snd : (a b : Bool) → a && b ≡ true → b ≡ true
and_snd true b e = e
and_snd false b e = absurd (false≢true e)

pub and_none_fst : (a b : Bool) → a ≡ false → a && b ≡ false
and_none_fst a b e = rw e

pub and_none_snd : (a b : Bool) → b ≡ false → a && b ≡ false
and_none_snd true b e = e
and_none_snd false b e = refl

pub or_fst : (a b : Bool) → a ≡ true → a || b ≡ true
or_fst a b e = rw e

pub or_snd : (a b : Bool) → b ≡ true → a || b ≡ true
or_snd true b e = refl
or_snd false b e = e

-- of two, the second, if the first does not hold
pub or_other : (a b : Bool) → a ≡ false → a || b ≡ true → b ≡ true
or_other true b x e = absurd (true≢false x)
or_other false b x e = e

pub or_none_fst : (a b : Bool) → a || b ≡ false → a ≡ false
or_none_fst true b e = e
or_none_fst false b e = refl

pub or_none_snd : (a b : Bool) → a || b ≡ false → b ≡ false
or_none_snd true b e = absurd (true≢false e)
or_none_snd false b e = e

pub not_false_true : (a : Bool) → not a ≡ false → a ≡ true
not_false_true true e = refl
not_false_true false e = absurd (true≢false e)

pub not_true_false : (a : Bool) → not a ≡ true → a ≡ false
not_true_false true e = absurd (false≢true e)
not_true_false false e = refl

-- any test of a list that holds, by its place
pub all_at : (bs : List Bool) → all bs ≡ true → (k : ℕ) → get_or bs k true ≡ true
all_at [] e k = refl
all_at (b ∷ []) e zero = e
all_at (b ∷ []) e (suc k) = refl
all_at (b ∷ c ∷ bs) e zero = and_fst b (all (c ∷ bs)) e
all_at (b ∷ c ∷ bs) e (suc k) = all_at (c ∷ bs) (and_snd b (all (c ∷ bs)) e) k

-- what holds of both, each where it is chosen, holds of the chosen one
pub cond_case {ℓ κ} : {A : Type ℓ} (P : A → Type κ) (b : Bool) (x y : A) → (b ≡ true → P x) → (b ≡ false → P y) → P (cond b x y)
cond_case P true x y f g = f refl
cond_case P false x y f g = g refl
