-- What a turn of a sweep answers, as what it adds: one row and its amount, or neither.
use mathlib.Core.Path.{◌≡◌, refl, ap, sym, ◌∙◌}
use Prim.Native.Nat.{ℕ, ◌+◌, ◌≤◌}
use native.Mathlib.Omega.{arith}
use Rattle.std.specs.Prelude.{Option, Some, None}

abbrev pub rows_of : Option ℕ → ℕ
rows_of None = 0
rows_of (Some x) = 1

abbrev pub amount_of : Option ℕ → ℕ
amount_of None = 0
amount_of (Some x) = x

pub one_row : (o : Option ℕ) → rows_of o ≤ 1
one_row None = omega arith
one_row (Some x) = omega arith

-- n rows and the amount m, after a turn that answers o
pub record Counted (o : Option ℕ) (rows amount n m : ℕ) : Type 0 where
  pub rows_so : n ≡ rows + rows_of o
  pub amount_so : m ≡ amount + amount_of o

module _ (o : Option ℕ) (rows amount n m : ℕ) where
  pub counted_some : (x : ℕ) → o ≡ Some x → n ≡ rows + 1 → m ≡ amount + x → Counted o rows amount n m
  counted_some x e p q = record {
    rows_so = p ∙ ap (λ (t : Option ℕ). rows + rows_of t) (sym e);
    amount_so = q ∙ ap (λ (t : Option ℕ). amount + amount_of t) (sym e);
  }

none_is : (o : Option ℕ) → ((x : ℕ) → o ≡ Some x → ⊥) → o ≡ None
none_is None h = refl
none_is (Some x) h = absurd (h x refl)

module _ (o : Option ℕ) (rows amount n m : ℕ) where
  pub counted_none : ((x : ℕ) → o ≡ Some x → ⊥) → n ≡ rows → m ≡ amount → Counted o rows amount n m
  counted_none h p q =
      let a : rows ≡ rows + 0 = omega arith in
      let b : amount ≡ amount + 0 = omega arith in
      record {
        rows_so = p ∙ a ∙ ap (λ (t : Option ℕ). rows + rows_of t) (sym (none_is o h));
        amount_so = q ∙ b ∙ ap (λ (t : Option ℕ). amount + amount_of t) (sym (none_is o h));
      }
