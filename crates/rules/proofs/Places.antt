-- The places that lookups give: a count that is right is within its table, a row that it counts is whole there, and a place is in the table or
-- at its end. Once for every row length.
use mathlib.Core.Path.{◌≡◌}
use mathlib.Core.List.{List}
use mathlib.Core.Bool.{true, ◌&&◌}
use Prim.Native.Nat.{ℕ, ◌+◌, ◌-◌, ◌*◌, ◌≤◌}
use native.Mathlib.Omega.{arith}
use lib.ListN.{get_or, length}
use lib.Dec.{eqb}
use borrow.Author.Tests.{leb-true}
use Rattle.rules.specs.Table.{rows_in, table_right}
use Rattle.rules.specs.Ledger.{written}
use Rattle.rules.specs.Lookup.{count_right, row_place}
use Rattle.rules.proofs.Bools.{and_fst, and_snd, cond_case}
use Rattle.rules.proofs.Rows.{rows_fit, room}
use Rattle.rules.proofs.Tests.{written_low, written_high}

pub count_within : (header_len c len most : ℕ) (header t : List ℕ) → count_right header_len c len most header t ≡ true → get_or header c 0 ≤ rows_in len t
count_within header_len c len most header t h =
    leb-true (get_or header c 0) (rows_in len t) (and_snd (table_right len most t) _ (and_snd (eqb (length header) header_len) _ h))

pub count_fits : (header_len c len most : ℕ) (header t : List ℕ) → count_right header_len c len most header t ≡ true → get_or header c 0 * len ≤ length t
count_fits header_len c len most header t h = rows_fit len (get_or header c 0) t (count_within header_len c len most header t h)

-- the number of a written row, where the count is right
module _ (header_len c len most : ℕ) (header t : List ℕ) (k : ℕ) where
  pub row_from_1 : count_right header_len c len most header t && written (get_or header c 0) k ≡ true → 1 ≤ k
  row_from_1 e = written_low (get_or header c 0) k (and_snd (count_right header_len c len most header t) _ e)

  pub row_whole : count_right header_len c len most header t && written (get_or header c 0) k ≡ true → (k - 1) * len + len ≤ length t
  row_whole e =
      let high : k ≤ get_or header c 0 = written_high (get_or header c 0) k (and_snd (count_right header_len c len most header t) _ e) in
      let fits : get_or header c 0 ≤ rows_in len t = count_within header_len c len most header t (and_fst (count_right header_len c len most header t) _ e) in
      room len (k - 1) t (omega (arith, row_from_1 e))

  pub place_within : row_place header_len c len most header t k ≤ length t
  unfolding row_place
  place_within =
      cond_case (λ (p : ℕ). p ≤ length t) (count_right header_len c len most header t && written (get_or header c 0) k) ((k - 1) * len) (length t)
      (λ e. omega (arith, row_whole e)) (λ e. omega arith)
