-- What a report may name, by the paper's number: the place in "of several the first in this order, the grid's cells last"; and 0 for nothing.
use Rattle.std.specs.Prelude.{ℕ, Option, None, Some}
use Rattle.grid.specs.declared.Named.{Named}
use Rattle.grid.specs.declared.Named.TheVariants.{Granted, Transferred, Released, Refunded, Expired, Cell}

abbrev pub number_of : Named → ℕ
number_of Granted = 1
number_of Transferred = 2
number_of Released = 3
number_of Refunded = 4
number_of Expired = 5
number_of Cell = 6

abbrev pub named_as : Option Named → ℕ
named_as None = 0
named_as (Some named) = number_of named
