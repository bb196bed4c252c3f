-- The search of the journal for signer and nonce, the newest row first. They are seen in n rows just if they are seen in the first i, or found in
-- the row that was looked at last, as no other row from i on has both. One more row is looked at as long as there is one and nothing is found.
use mathlib.Core.Path.{◌≡◌, refl, sym, ap, ◌∙◌}
use mathlib.Core.List.{List}
use mathlib.Core.Bool.{Bool, true, false, not, ◌&&◌, ◌||◌, and-true, or-false}
use Prim.Native.Nat.{ℕ, ◌+◌, ◌-◌, ◌≤◌, ◌<◌}
use native.Mathlib.Numerals.{add-one}
use native.Mathlib.Omega.{arith}
use lib.Dec.{eqb, ltb}
use borrow.Author.Tests.{ltb-true, ltb-false}
use Rattle.rules.specs.Limits.{JOURNAL_LEN, SIGNER, NONCE}
use Rattle.rules.specs.Table.{word, some}
use Rattle.rules.specs.Refusals.{seen_in}
use Rattle.rules.proofs.Bools.{and_fst, and_snd, or_snd, not_true_false}

-- another row is looked at: there is one, and nothing is found
abbrev pub goes_on : ℕ → Bool → Bool
goes_on i found = ltb 0 i && not found

left : (i : ℕ) (found : Bool) → goes_on i found ≡ true → 0 < i
left i found t = ltb-true 0 i (and_fst (ltb 0 i) (not found) t)

module _ (j : List ℕ) (signer nonce : ℕ) where
  abbrev pub has : ℕ → Bool
  has i = eqb (word j JOURNAL_LEN i SIGNER) signer && eqb (word j JOURNAL_LEN i NONCE) nonce

  abbrev pub seen_below : ℕ → Bool
  seen_below n = seen_in j n signer nonce

  abbrev pub Known : ℕ → Bool → ℕ → Type 0
  Known n found i = seen_below n ≡ (seen_below i || found)

  -- the newest of i rows
  newest : (i : ℕ) → 0 < i → seen_below i ≡ (seen_below (i - 1) || has (i - 1))
  unfolding seen_in some
  newest i l =
      let e : i ≡ i - 1 + 1 = omega arith in
      ap seen_below e ∙ ap seen_below (add-one (i - 1))

  pub seen_next : (n i : ℕ) (found : Bool) → goes_on i found ≡ true → Known n found i → Known n (has (i - 1)) (i - 1)
  seen_next n i found t k =
      let f : found ≡ false = not_true_false found (and_snd (ltb 0 i) (not found) t) in
      k ∙ ap (λ b. seen_below i || b) f ∙ or-false _ ∙ newest i (left i found t)

  pub seen_ends : (n i : ℕ) (found : Bool) → goes_on i found ≡ false → Known n found i → found ≡ seen_below n
  unfolding seen_in some
  seen_ends n i true t k = sym (k ∙ or_snd (seen_below i) true refl)
  seen_ends n i false t k =
      let l : i ≤ 0 = ltb-false 0 i (sym (and-true (ltb 0 i)) ∙ t) in
      let e : i ≡ 0 = omega arith in
      sym (k ∙ ap (λ m. seen_below m || false) e)
