-- What `all` answers over the numbers below n, of a closure that answers a test of them; and what a fold of the tests does, which has no branch.
use mathlib.Core.Path.{◌≡◌, refl, sym, ap, subst, ◌∙◌}
use mathlib.Core.Bool.{Bool, true, false, ◌&&◌}
use mathlib.Core.List.{List, map}
use native.Mathlib.Numerals.{add-one}
use Prim.Native.Nat.{ℕ, zero, suc, ◌<◌}
use native.Mathlib.Omega.{arith}
use lib.ListN.{length, get_or}
use denote.Param.Members.{Mut}
use Rattle.std.specs.declared.ops.Range.{Range}
use Rattle.std.specs.Bool.{MatchBool}
use Rattle.std.specs.Fn.{Called}
use Rattle.std.specs.Iterator.{ChecksAll}
use Rattle.std.specs.List.{range_with_len, fold, AllWithin, HoldsAt}
use Rattle.std.proofs.iter.Yields.{nat_range_steps}
use Rattle.std.proofs.lemmas.Iterator.{cases_from_all, YieldsList-from_range}
use Rattle.std.proofs.lemmas.List.FromFn.{length-range_with_len, get_or-range_with_len, map-range_with_len_more}
use Rattle.std.proofs.lemmas.List.Folds.{fold-map}
use Rattle.std.proofs.lemmas.List.Sums.{fold_push}
use Rattle.rules.specs.Table.{every}
use Rattle.rules.proofs.Counts.{every_intro, every_fails, every_none, every_step}

pub every_below : {F : Type 0} {g : Mut F (ℕ × Unit {0}) Bool} (s u : Range ℕ) (f : F) (n : ℕ) (p : ℕ → Bool) (r : Bool)
    → s ≡ record { start = 0; end = n } → ChecksAll nat_range_steps g s f r u
    → ((x : ℕ) (b : Bool) (q : F) → Called g f (x, tt) b q → (q ≡ f) × (b ≡ p x)) → r ≡ every n p
every_below s u f n p r e ran says =
    ends r (cases_from_all u f r (λ i. p i ≡ true) (λ i. p i ≡ false) ran (YieldsList-from_range 0 n n e (omega arith))
    (λ x q k. let h = says x true q k in (h.0, sym h.1)) (λ x q k. sym (says x false q k).1))
  where
    numbers : List ℕ
    numbers = range_with_len 0 n

    at : (i : ℕ) → i < n → p (get_or numbers i 0) ≡ p i
    at i l = ap p (get_or-range_with_len 0 n i 0 l ∙ omega arith)

    ends : (r : Bool)
        → MatchBool r (AllWithin (λ i. p i ≡ true) numbers 0 (length numbers)) ((k : ℕ) × (k < length numbers) × HoldsAt (λ i. p i ≡ false) numbers k)
        → r ≡ every n p
    ends true h = sym (every_intro n p (λ i l. sym (at i l) ∙ h i 0 (omega arith) (omega (arith, length-range_with_len 0 n))))
    ends false h =
        let l : h.0 < n = omega (arith, h.1, length-range_with_len 0 n) in
        every_fails n h.0 p l (sym (at h.0 l) ∙ h.2 0)

pub every_fold : (n : ℕ) (p : ℕ → Bool) → fold (λ b i. b && p i) true (range_with_len 0 n) ≡ every n p
every_fold n p = sym (fold-map ◌&&◌ p true (range_with_len 0 n)) ∙ go n
  where
    go : (n : ℕ) → fold ◌&&◌ true (map p (range_with_len 0 n)) ≡ every n p
    go zero = sym (every_none p)
    go (suc n) = subst (λ k. fold ◌&&◌ true (map p (range_with_len 0 k)) ≡ every k p) (add-one n)
        (ap (fold ◌&&◌ true) (map-range_with_len_more p 0 n n (omega arith)) ∙ fold_push ◌&&◌ true (map p (range_with_len 0 n)) (p n)
        ∙ every_step n p (go n) refl)
