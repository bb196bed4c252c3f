-- The number of a row, as the functions over numbered rows take it.
use Rattle.std.specs.Prelude.{ℕ, ◌≤◌, ◌^◌}

-- it names a row, counted from 1, and the row's place in a table does not wrap
pub record Names (number : ℕ) : Type 0 where
  pub low : 1 ≤ number
  pub high : number ≤ 2 ^ 32
