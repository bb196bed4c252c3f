-- Laws of a grid of counts (specs/Report `raised`): one cell raised is one more in the sum, and it is one more itself; every other cell is as it
-- was, and so are the number of rows and the length of each. By the list of rows, or by the laws of a list that is set at a place.
use mathlib.Core.Path.{◌≡◌, refl, sym, ap, ◌∙◌}
use mathlib.Core.Logic.{◌≢◌}
use mathlib.Core.List.{List, [], ◌∷◌}
use mathlib.Core.Bool.{false, cond, ◌&&◌}
use Prim.Native.Nat.{ℕ, zero, suc, ◌+◌, ◌<◌}
use native.Mathlib.Nat.{not-suc-le-zero}
use native.Mathlib.Decide.{ℕ_discrete}
use native.Mathlib.Omega.{arith}
use lib.ListN.{get_or, set, length, length-set}
use lib.Seq.{get_or-set_same, get_or-set_other}
use lib.Dec.{eqb}
use borrow.Author.Tests.{eq-eqb, ne_eqb}
use Rattle.rules.specs.Report.{Grid, cell, raised}
use Rattle.rules.specs.Month.{row_total, total}
use Rattle.rules.proofs.Bools.{and_none_fst, and_none_snd}

-- ---- the sum

row_more : (r : List ℕ) (j : ℕ) → j < length r → row_total (set r j (get_or r j 0 + 1)) ≡ row_total r + 1
row_more [] j h = absurd (not-suc-le-zero h)
row_more (x ∷ r) zero h = omega arith
row_more (x ∷ r) (suc j) h = omega (arith, row_more r j (omega arith))

pub raised_total : (g : Grid) (i j : ℕ) → i < length g → j < length (get_or g i []) → total (raised g i j) ≡ total g + 1
raised_total [] i j h k = absurd (not-suc-le-zero h)
raised_total (r ∷ g) zero j h k = omega (arith, row_more r j k)
raised_total (r ∷ g) (suc i) j h k = omega (arith, raised_total g i j (omega arith) k)

-- ---- rows and columns

pub raised_rows : (g : Grid) (i j : ℕ) → length (raised g i j) ≡ length g
raised_rows g i j = length-set g i _

pub raised_columns : (g : Grid) (i j row : ℕ) → length (get_or (raised g i j) row []) ≡ length (get_or g row [])
raised_columns [] i j row = refl
raised_columns (r ∷ g) zero j zero = length-set r j _
raised_columns (r ∷ g) zero j (suc row) = refl
raised_columns (r ∷ g) (suc i) j zero = refl
raised_columns (r ∷ g) (suc i) j (suc row) = raised_columns g i j row

-- ---- the cells: the one that is raised, those of another row, and those of another column

pub raised_there : (g : Grid) (i j : ℕ) → i < length g → j < length (get_or g i []) → cell (raised g i j) i j ≡ cell g i j + 1
raised_there g i j h k = ap (λ (r : List ℕ). get_or r j 0) (get_or-set_same g i _ [] h) ∙ get_or-set_same (get_or g i []) j _ 0 k

pub raised_row : (g : Grid) (i j row column : ℕ) → row ≢ i → cell (raised g i j) row column ≡ cell g row column
raised_row g i j row column ne = ap (λ (r : List ℕ). get_or r column 0) (get_or-set_other g i row _ [] ne)

pub raised_column : (g : Grid) (i j row column : ℕ) → column ≢ j → cell (raised g i j) row column ≡ cell g row column
raised_column [] i j row column ne = refl
raised_column (r ∷ g) zero j zero column ne = get_or-set_other r j column _ 0 ne
raised_column (r ∷ g) zero j (suc row) column ne = refl
raised_column (r ∷ g) (suc i) j zero column ne = refl
raised_column (r ∷ g) (suc i) j (suc row) column ne = raised_column g i j row column ne

-- so each is more by 1 if it is the one, and by 0 if not
pub raised_cell : (g : Grid) (i j : ℕ) → i < length g → j < length (get_or g i []) → (row column : ℕ)
    → cell (raised g i j) row column ≡ cell g row column + cond (eqb i row && eqb j column) 1 0
raised_cell g i j h k row column = go (ℕ_discrete row i) (ℕ_discrete column j)
  where
    Raised : Type 0
    Raised = cell (raised g i j) row column ≡ cell g row column + cond (eqb i row && eqb j column) 1 0

    as_it_was : cell (raised g i j) row column ≡ cell g row column → eqb i row && eqb j column ≡ false → Raised
    as_it_was same other = rw other (omega (arith, same))

    go : Dec (row ≡ i) → Dec (column ≡ j) → Raised
    go (no r) c = as_it_was (raised_row g i j row column r) (and_none_fst (eqb i row) _ (ne_eqb i row (λ e. r (sym e))))
    go (yes r) (no c) = as_it_was (raised_column g i j row column c) (and_none_snd (eqb i row) (eqb j column) (ne_eqb j column (λ e. c (sym e))))
    go (yes r) (yes c) = rw (r, c, eq-eqb i i refl, eq-eqb j j refl) (raised_there g i j h k)
