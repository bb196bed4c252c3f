-- Laws of what is said of the first n of something: sums, tests of every one, of some one and of every two. Also each of them one step further, as a
-- loop of the code goes.
use mathlib.Core.Path.{◌≡◌, refl, sym, ap, ap₂, ◌∙◌, subst}
use mathlib.Core.Logic.{◌≢◌}
use mathlib.Core.Bool.{Bool, true, false, not, ◌&&◌, ◌||◌, true≢false}
use Prim.Native.Nat.{ℕ, zero, suc, ◌+◌, ◌*◌, ◌≤◌, ◌<◌}
use native.Mathlib.Nat.{not-suc-le-zero}
use native.Mathlib.Numerals.{add-one}
use native.Mathlib.Decide.{ℕ_discrete}
use native.Mathlib.Omega.{arith}
use lib.Dec.{eqb}
use borrow.Author.Tests.{ne_eqb}
use Rattle.rules.specs.Table.{sum, every, some, distinct}
use Rattle.rules.proofs.Bools.{and_fst, and_snd, and_intro, or_snd}

-- sums
pub sum_ext : (n : ℕ) (f g : ℕ → ℕ) → ((i : ℕ) → i < n → f i ≡ g i) → sum n f ≡ sum n g
unfolding sum every some
sum_ext zero f g e = refl
sum_ext (suc n) f g e = ap₂ ◌+◌ (sum_ext n f g (λ i h. e i (omega arith))) (e n (omega arith))

pub sum_zero : (n : ℕ) (f : ℕ → ℕ) → ((i : ℕ) → i < n → f i ≡ 0) → sum n f ≡ 0
unfolding sum every some
sum_zero zero f e = refl
sum_zero (suc n) f e = omega (arith, sum_zero n f (λ i h. e i (omega arith)), e n (omega arith))

pub sum_both : (n : ℕ) (f g h : ℕ → ℕ) → ((i : ℕ) → i < n → f i ≡ g i + h i) → sum n f ≡ sum n g + sum n h
unfolding sum
sum_both zero f g h e = refl
sum_both (suc n) f g h e = omega (arith, sum_both n f g h (λ i l. e i (omega arith)), e n (omega arith))

-- two that differ at k only
pub sum_change : (n k : ℕ) (f g : ℕ → ℕ) → k < n → ((i : ℕ) → i < n → i ≢ k → f i ≡ g i) → sum n f + g k ≡ sum n g + f k
unfolding sum every some
sum_change zero k f g h e = absurd (not-suc-le-zero h)
sum_change (suc n) k f g h e = go (ℕ_discrete k n) (λ l. sum_change n k f g l (λ i hi ne. e i (omega arith) ne))
  where
    go : Dec (k ≡ n) → (k < n → sum n f + g k ≡ sum n g + f k) → sum n f + f n + g k ≡ sum n g + g n + f k
    go (yes r) ih =
        let s : sum n f ≡ sum n g = sum_ext n f g (λ i hi. e i (omega arith) (omega arith)) in
        let a : f k ≡ f n = ap f r in
        let b : g k ≡ g n = ap g r in
        omega arith
    go (no r) ih =
        let s : sum n f + g k ≡ sum n g + f k = ih (omega (arith, r)) in
        let a : f n ≡ g n = e n (omega arith) (λ x. r (sym x)) in
        omega arith

-- one of the summands, and the sum so far, are at most the sum
pub le_sum : (n : ℕ) (f : ℕ → ℕ) (k : ℕ) → k < n → f k ≤ sum n f
unfolding sum
le_sum zero f k h = absurd (not-suc-le-zero h)
le_sum (suc n) f k h = go (ℕ_discrete k n) (λ l. le_sum n f k l)
  where
    go : Dec (k ≡ n) → (k < n → f k ≤ sum n f) → f k ≤ sum n f + f n
    go (yes r) ih = let a : f k ≡ f n = ap f r in omega arith
    go (no r) ih = let a : f k ≤ sum n f = ih (omega (arith, r)) in omega arith

pub sum_part : (n m : ℕ) (f : ℕ → ℕ) → n ≤ m → sum n f ≤ sum m f
unfolding sum
sum_part n zero f h = let e : n ≡ 0 = omega arith in subst (λ (x : ℕ). sum x f ≤ 0) (sym e) (omega arith)
sum_part n (suc m) f h = go (ℕ_discrete n (suc m)) (λ l. sum_part n m f l)
  where
    go : Dec (n ≡ suc m) → (n ≤ m → sum n f ≤ sum m f) → sum n f ≤ sum m f + f m
    go (yes r) ih = subst (λ (x : ℕ). sum x f ≤ sum m f + f m) (sym r) (omega arith)
    go (no r) ih = let a : sum n f ≤ sum m f = ih (omega (arith, r)) in omega arith

-- a sum is at most the largest summand as often as there are summands
pub sum_most : (n b : ℕ) (f : ℕ → ℕ) → ((i : ℕ) → i < n → f i ≤ b) → sum n f ≤ n * b
unfolding sum
sum_most zero b f h = omega arith
sum_most (suc n) b f h =
    let e : suc n * b ≡ n * b + b = native.Mathlib.Nat.suc-mul n b in
    omega (arith, sum_most n b f (λ i l. h i (omega arith)), h n (omega arith))

-- a loop that carries the sum so far
pub sum_none : (f : ℕ → ℕ) → sum 0 f ≡ 0
unfolding sum
sum_none f = refl

pub sum_step : (n : ℕ) (f : ℕ → ℕ) → sum (n + 1) f ≡ sum n f + f n
unfolding sum
sum_step n f = rw (add-one n)

pub every_at : (n : ℕ) (p : ℕ → Bool) → every n p ≡ true → (i : ℕ) → i < n → p i ≡ true
unfolding sum every some
every_at zero p e i h = absurd (not-suc-le-zero h)
every_at (suc n) p e i h = go (ℕ_discrete i n) (λ l. every_at n p (and_fst (every n p) (p n) e) i l)
  where
    go : Dec (i ≡ n) → (i < n → p i ≡ true) → p i ≡ true
    go (yes r) ih = ap p r ∙ and_snd (every n p) (p n) e
    go (no r) ih = ih (omega (arith, r))

pub some_of : (n : ℕ) (p : ℕ → Bool) (i : ℕ) → i < n → p i ≡ true → some n p ≡ true
unfolding sum every some
some_of zero p i h e = absurd (not-suc-le-zero h)
some_of (suc n) p i h e = go (ℕ_discrete i n) (λ l. some_of n p i l e)
  where
    go : Dec (i ≡ n) → (i < n → some n p ≡ true) → some n p || p n ≡ true
    go (yes r) ih = or_snd (some n p) (p n) (sym (ap p r) ∙ e)
    go (no r) ih = rw (ih (omega (arith, r)))

pub some_mono : (n m : ℕ) (p q : ℕ → Bool) → n ≤ m → ((i : ℕ) → i < n → p i ≡ q i) → some n p ≡ true → some m q ≡ true
unfolding sum every some
some_mono zero m p q h e s = absurd (true≢false (sym s))
some_mono (suc n) m p q h e s = go (some n p) refl (some_mono n m p q (omega arith) (λ i l. e i (omega arith)))
  where
    go : (b : Bool) → some n p ≡ b → (some n p ≡ true → some m q ≡ true) → some m q ≡ true
    go true x ih = ih x
    go false x ih = some_of m q n (omega arith) (sym (e n (omega arith)) ∙ (rw x at s))

pub every_intro : (n : ℕ) (p : ℕ → Bool) → ((i : ℕ) → i < n → p i ≡ true) → every n p ≡ true
unfolding every
every_intro zero p h = refl
every_intro (suc n) p h = and_intro (every n p) (p n) (every_intro n p (λ i l. h i (omega arith))) (h n (omega arith))

-- tests that agree on the first n
pub every_ext : (n : ℕ) (p q : ℕ → Bool) → ((i : ℕ) → i < n → p i ≡ q i) → every n p ≡ every n q
unfolding every
every_ext zero p q e = refl
every_ext (suc n) p q e = ap₂ ◌&&◌ (every_ext n p q (λ i h. e i (omega arith))) (e n (omega arith))

pub some_ext : (n : ℕ) (p q : ℕ → Bool) → ((i : ℕ) → i < n → p i ≡ q i) → some n p ≡ some n q
unfolding some
some_ext zero p q e = refl
some_ext (suc n) p q e = ap₂ ◌||◌ (some_ext n p q (λ i h. e i (omega arith))) (e n (omega arith))

-- a loop that carries the answer so far
pub every_none : (p : ℕ → Bool) → every 0 p ≡ true
unfolding every
every_none p = refl

pub every_step : (n : ℕ) (p : ℕ → Bool) {a b : Bool} → a ≡ every n p → b ≡ p n → a && b ≡ every (n + 1) p
unfolding every
every_step n p x y = rw (add-one, x, y)

-- a loop that stops at the first that fails: so far all pass; one fails; all have passed
pub every_on : (i : ℕ) (p : ℕ → Bool) → every i p ≡ true → p i ≡ true → every (i + 1) p ≡ true
every_on i p x y = sym (every_step i p (sym x) (sym y))

pub every_fails : (n i : ℕ) (p : ℕ → Bool) → i < n → p i ≡ false → false ≡ every n p
every_fails n i p l e = go (every n p) refl
  where
    go : (b : Bool) → every n p ≡ b → false ≡ every n p
    go true x = absurd (true≢false (sym (every_at n p x i l) ∙ e))
    go false x = sym x

pub every_passed : (n i : ℕ) (p : ℕ → Bool) → i ≤ n → n ≤ i → every i p ≡ true → true ≡ every n p
every_passed n i p l g x = let e : i ≡ n = omega arith in sym x ∙ ap (λ k. every k p) e

-- no two have the same: of functions that agree, and of one that another takes back
pub distinct_ext : (n : ℕ) (f g : ℕ → ℕ) → ((i : ℕ) → i < n → f i ≡ g i) → distinct n f ≡ distinct n g
distinct_ext n f g e =
    every_ext n (λ i. every i (λ j. not (eqb (f j) (f i)))) (λ i. every i (λ j. not (eqb (g j) (g i))))
    (λ i h. every_ext i (λ j. not (eqb (f j) (f i))) (λ j. not (eqb (g j) (g i))) (λ j l. ap₂ (λ a b. not (eqb a b)) (e j (omega arith)) (e i h)))

pub taken_back : (n : ℕ) (f g : ℕ → ℕ) → ((i : ℕ) → i < n → g (f i) ≡ i + 1) → distinct n f ≡ true
taken_back n f g e =
    every_intro n (λ i. every i (λ j. not (eqb (f j) (f i))))
    (λ i h. every_intro i (λ j. not (eqb (f j) (f i))) (λ j l. rw (ne_eqb (f j) (f i) (differ i j h l))))
  where
    differ : (i j : ℕ) → i < n → j < i → f j ≡ f i → ⊥
    differ i j h l z = let r : j + 1 ≡ i + 1 = sym (e j (omega arith)) ∙ ap g z ∙ e i h in omega arith
