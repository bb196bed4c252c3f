-- WHAT IS NAMED of numbers in a row (specs/Report `first_past`): the first that passes 2^64 - 1, if something is named; and if nothing is, none of them
-- passes. By the list, with places counted from any number on.
use mathlib.Core.Path.{◌≡◌, refl}
use mathlib.Core.Logic.{◌≢◌}
use mathlib.Core.List.{List, [], ◌∷◌}
use mathlib.Core.Bool.{Bool, true, false, cond}
use Prim.Native.Nat.{ℕ, zero, suc, ◌+◌, ◌≤◌, ◌<◌}
use native.Mathlib.Nat.{not-suc-le-zero}
use native.Mathlib.Omega.{arith}
use lib.ListN.{get_or}
use lib.Dec.{ltb}
use borrow.Author.Tests.{ltb-true, ltb-false}
use Rattle.rules.specs.Limits.{LAST_FIGURE}
use Rattle.rules.specs.Report.{Report, Line, would_be, first_past, passing}
use Rattle.rules.specs.Month.{NamesFirst}
use Rattle.rules.proofs.Bools.{cond_case}

-- ---- something is named: it is the first that passes

-- m names the first of these numbers that passes, counted from n
pub record NamesFrom (n m : ℕ) (xs : List ℕ) : Type 0 where
  pub place : ℕ
  pub named : m ≡ n + place
  pub passes : LAST_FIGURE < get_or xs place 0
  pub before : (k : ℕ) → k < place → get_or xs k 0 ≤ LAST_FIGURE

-- behind a number that does not pass
none_before : (x : ℕ) (xs : List ℕ) (place : ℕ) → x ≤ LAST_FIGURE → ((k : ℕ) → k < place → get_or xs k 0 ≤ LAST_FIGURE)
    → (k : ℕ) → k < suc place → get_or (x ∷ xs) k 0 ≤ LAST_FIGURE
none_before x xs place low before zero h = low
none_before x xs place low before (suc k) h = before k (omega arith)

names_behind : (n m x : ℕ) (xs : List ℕ) → x ≤ LAST_FIGURE → NamesFrom (n + 1) m xs → NamesFrom n m (x ∷ xs)
names_behind n m x xs low b = record {
  place = suc b.place;
  named = omega (arith, b.named);
  passes = b.passes;
  before = none_before x xs b.place low b.before;
}

pub past_some : (n : ℕ) (xs : List ℕ) → first_past n xs ≢ 0 → NamesFrom n (first_past n xs) xs
past_some n [] = λ some. absurd (some refl)
past_some n (x ∷ xs) =
    cond_case (λ (m : ℕ). m ≢ 0 → NamesFrom n m (x ∷ xs)) (ltb LAST_FIGURE x) _ _
    (λ p some. record { place = 0; named = omega (arith, some); passes = ltb-true LAST_FIGURE x p; before = λ k h. absurd (not-suc-le-zero h) })
    (λ p some. names_behind n _ x xs (ltb-false LAST_FIGURE x p) (past_some (n + 1) xs some))

pub passing_some : (R : Report) (l : Line) → passing R l ≢ 0 → NamesFirst (passing R l) (would_be R l)
unfolding passing
passing_some R l some =
    let p = past_some 1 (would_be R l) some in
    record { place = p.place; named = omega (arith, p.named); passes = p.passes; before = p.before }

-- ---- nothing is named: none passes

-- of a place from 1 on and another number, 0 is chosen: it is the other one
other_chosen : (b : Bool) (n m : ℕ) → 1 ≤ n → cond b n m ≡ 0 → (b ≡ false) × (m ≡ 0)
other_chosen true n m h e = absurd (omega (arith, e))
other_chosen false n m h e = (refl, e)

pub past_none : (n : ℕ) (xs : List ℕ) → 1 ≤ n → first_past n xs ≡ 0 → (k : ℕ) → get_or xs k 0 ≤ LAST_FIGURE
past_none n [] h none k = omega arith
past_none n (x ∷ xs) h none zero = ltb-false LAST_FIGURE x (other_chosen (ltb LAST_FIGURE x) n (first_past (n + 1) xs) h none).0
past_none n (x ∷ xs) h none (suc k) = past_none (n + 1) xs (omega arith) (other_chosen (ltb LAST_FIGURE x) n (first_past (n + 1) xs) h none).1 k
