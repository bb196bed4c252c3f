-- The row of an operation byte, the first figure that passes, and the sums, over plain values: what the code's tests come to, and its loops over the five
-- figures, a figure further.
use mathlib.Core.Path.{◌≡◌, refl, sym, ap, ◌∙◌, subst}
use mathlib.Core.List.{List, [], ◌∷◌, ◌++◌}
use mathlib.Core.Bool.{Bool, true, false, not, cond, ◌&&◌}
use Prim.Native.Nat.{ℕ, zero, suc, ◌+◌, ◌≤◌, ◌<◌}
use native.Mathlib.Omega.{arith}
use lib.Dec.{eqb, ltb, leb}
use lib.ListN.{get_or, set, drop, length}
use mir.Syntax.{w64}
use mir.Val.{Fits}
use Rattle.rules.specs.Limits.{OLD_DISPUTE, LAST_OPERATION, LAST_FIGURE}
use Rattle.rules.specs.Report.{grid_row, sums, first_past}
use Rattle.grid.specs.Named.{number_of}
use Rattle.grid.specs.declared.Named.{Named}
use Rattle.grid.specs.declared.Named.TheVariants.{Granted, Transferred, Released, Refunded, Expired}

-- the code's test of an operation
abbrev is_row : ℕ → Bool
is_row op = leb op LAST_OPERATION && not (eqb op OLD_DISPUTE)

pub row_in : (op : ℕ) → is_row op ≡ true → op ≡ grid_row op
row_in op h = rw h

pub row_out : (op : ℕ) → is_row op ≡ false → 0 ≡ grid_row op
row_out op h = rw h

-- ---- one figure after the other

-- each of the five
below_5 : (P : ℕ → Type 0) → P 0 → P 1 → P 2 → P 3 → P 4 → (k : ℕ) → k < 5 → P k
below_5 P a b c d e zero h = a
below_5 P a b c d e (suc zero) h = b
below_5 P a b c d e (suc (suc zero)) h = c
below_5 P a b c d e (suc (suc (suc zero))) h = d
below_5 P a b c d e (suc (suc (suc (suc zero)))) h = e
below_5 P a b c d e (suc (suc (suc (suc (suc k))))) h = absurd (omega arith)

-- what the figures and the cell would be
abbrev pub would_be : List ℕ → List ℕ → ℕ → List ℕ
would_be figures adds count = sums figures adds ++ ((count + 1) ∷ [])

-- none of the first k passes: what is left of the list names what the whole names
abbrev pub Left : List ℕ → List ℕ → ℕ → ℕ → Type 0
Left figures adds count k = first_past (k + 1) (drop k (would_be figures adds count)) ≡ first_past 1 (would_be figures adds count)

-- the first of a list passes, or else the others are asked
stops : (n x : ℕ) (xs : List ℕ) {w : ℕ} → ltb LAST_FIGURE x ≡ true → first_past n (x ∷ xs) ≡ w → n ≡ w
stops n x xs t e = sym (ap (λ (b : Bool). cond b n (first_past (n + 1) xs)) t) ∙ e

goes_on : (n x : ℕ) (xs : List ℕ) {w : ℕ} → ltb LAST_FIGURE x ≡ false → first_past n (x ∷ xs) ≡ w → first_past (n + 1) xs ≡ w
goes_on n x xs t e = sym (ap (λ (b : Bool). cond b n (first_past (n + 1) xs)) t) ∙ e

module _ (figures adds : List ℕ) (count : ℕ) where
  abbrev each : ℕ → ℕ
  each k = get_or figures k 0 + get_or adds k 0

  abbrev named : ℕ → Named
  named k = get_or (Granted ∷ Transferred ∷ Released ∷ Refunded ∷ Expired ∷ []) k Granted

  pub names : (k : ℕ) → k < 5 → ltb LAST_FIGURE (each k) ≡ true → Left figures adds count k → number_of (named k) ≡ first_past 1 (would_be figures adds count)
  names =
      below_5 (λ k. ltb LAST_FIGURE (each k) ≡ true → Left figures adds count k → number_of (named k) ≡ first_past 1 (would_be figures adds count))
      (λ t e. stops 1 _ (drop 1 (would_be figures adds count)) t e) (λ t e. stops 2 _ (drop 2 (would_be figures adds count)) t e) (λ t e. stops 3 _ (drop 3 (would_be figures adds count)) t e) (λ t e. stops 4 _ (drop 4 (would_be figures adds count)) t e) (λ t e. stops 5 _ (drop 5 (would_be figures adds count)) t e)

  pub one_more : (k : ℕ) → k < 5 → ltb LAST_FIGURE (each k) ≡ false → Left figures adds count k → Left figures adds count (k + 1)
  one_more =
      below_5 (λ k. ltb LAST_FIGURE (each k) ≡ false → Left figures adds count k → Left figures adds count (k + 1))
      (λ t e. goes_on 1 _ (drop 1 (would_be figures adds count)) t e) (λ t e. goes_on 2 _ (drop 2 (would_be figures adds count)) t e) (λ t e. goes_on 3 _ (drop 3 (would_be figures adds count)) t e) (λ t e. goes_on 4 _ (drop 4 (would_be figures adds count)) t e) (λ t e. goes_on 5 _ (drop 5 (would_be figures adds count)) t e)

  module _ (k : ℕ) (all : k ≡ 5) (left : Left figures adds count k) where
    last : Left figures adds count 5
    last = subst (Left figures adds count) all left

    pub names_the_cell : ltb LAST_FIGURE (count + 1) ≡ true → 6 ≡ first_past 1 (would_be figures adds count)
    names_the_cell t = stops 6 _ (drop 6 (would_be figures adds count)) t last

    pub names_nothing : ltb LAST_FIGURE (count + 1) ≡ false → 0 ≡ first_past 1 (would_be figures adds count)
    names_nothing t = goes_on 6 _ (drop 6 (would_be figures adds count)) t last

-- the first k of them with what is added
abbrev pub summed : List ℕ → List ℕ → ℕ → List ℕ
summed figures adds k =
    let part : ℕ → ℕ = λ j. cond (ltb j k) (get_or figures j 0 + get_or adds j 0) (get_or figures j 0) in
    part 0 ∷ part 1 ∷ part 2 ∷ part 3 ∷ part 4 ∷ []

pub none_summed : (figures adds : List ℕ) → length figures ≡ 5 → figures ≡ summed figures adds 0
none_summed (a ∷ b ∷ c ∷ d ∷ e ∷ []) adds h = refl
none_summed [] adds h = absurd (omega (arith, h))
none_summed (a ∷ []) adds h = absurd (omega (arith, h))
none_summed (a ∷ b ∷ []) adds h = absurd (omega (arith, h))
none_summed (a ∷ b ∷ c ∷ []) adds h = absurd (omega (arith, h))
none_summed (a ∷ b ∷ c ∷ d ∷ []) adds h = absurd (omega (arith, h))
none_summed (a ∷ b ∷ c ∷ d ∷ e ∷ f ∷ xs) adds h = absurd (omega (arith, h))

module _ (figures adds : List ℕ) where
  is_next : (k : ℕ) → k < 5 → get_or (summed figures adds k) k 0 ≡ get_or figures k 0
  is_next = below_5 (λ k. get_or (summed figures adds k) k 0 ≡ get_or figures k 0) refl refl refl refl refl

  -- the next sum fits
  pub next_fits : (k : ℕ) {s : List ℕ} → k < 5 → s ≡ summed figures adds k → get_or figures k 0 + get_or adds k 0 ≤ LAST_FIGURE → Fits w64 (get_or s k 0 + get_or adds k 0)
  next_fits k h e fit = let z = ap (λ (s : List ℕ). get_or s k 0) e ∙ is_next k h in record { fits = omega (arith, z, fit) }

  pub one_summed : (k : ℕ) {s : List ℕ} → k < 5 → s ≡ summed figures adds k → set s k (get_or s k 0 + get_or adds k 0) ≡ summed figures adds (k + 1)
  one_summed k h e = ap (λ (s : List ℕ). set s k (get_or s k 0 + get_or adds k 0)) e ∙ go k h
    where
      go : (k : ℕ) → k < 5 → set (summed figures adds k) k (get_or (summed figures adds k) k 0 + get_or adds k 0) ≡ summed figures adds (k + 1)
      go =
          below_5 (λ k. set (summed figures adds k) k (get_or (summed figures adds k) k 0 + get_or adds k 0) ≡ summed figures adds (k + 1))
          refl refl refl refl refl

  pub all_summed : (k : ℕ) {s : List ℕ} → k ≡ 5 → s ≡ summed figures adds k → s ≡ sums figures adds
  all_summed k all e = e ∙ ap (summed figures adds) all
