-- The place of a row in its table, by what was tested, once for every row length.
use mathlib.Core.Path.{◌≡◌}
use mathlib.Core.List.{List}
use mathlib.Core.Bool.{Bool, true, false, ◌&&◌}
use Prim.Native.Nat.{ℕ, ◌-◌, ◌*◌, ◌/◌}
use lib.Dec.{eqb, ltb, leb}
use lib.ListN.{get_or, length}
use Rattle.rules.specs.Table.{table_right}
use Rattle.rules.specs.Ledger.{written}
use Rattle.rules.specs.Lookup.{count_right, row_place}

-- the same tests over what was worked out of them: a table's right, a count
pub count_by : (header_len c len most : ℕ) (header t : List ℕ) {right : Bool} {n : ℕ} → right ≡ table_right len most t → n ≡ get_or header c 0
    → eqb (length header) header_len && (right && leb n (length t / len)) ≡ count_right header_len c len most header t
count_by header_len c len most header t x y = rw (x, y)

pub row_by : (header_len c len most : ℕ) (header t : List ℕ) (number : ℕ) {right b : Bool} {n : ℕ} → right ≡ count_right header_len c len most header t
    → n ≡ get_or header c 0 → right && (ltb 0 number && leb number n) ≡ b
    → count_right header_len c len most header t && written (get_or header c 0) number ≡ b
row_by header_len c len most header t number x y e = rw (← x, ← y) e

-- where a row starts, and where there is none
pub place_there : (header_len c len most : ℕ) (header t : List ℕ) (number : ℕ) → count_right header_len c len most header t && written (get_or header c 0) number ≡ true
    → (number - 1) * len ≡ row_place header_len c len most header t number
unfolding row_place
place_there header_len c len most header t number e = rw e

pub place_none : (header_len c len most : ℕ) (header t : List ℕ) (number : ℕ) → count_right header_len c len most header t && written (get_or header c 0) number ≡ false
    → length t ≡ row_place header_len c len most header t number
unfolding row_place
place_none header_len c len most header t number e = rw e
