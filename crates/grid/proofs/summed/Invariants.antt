-- `grid::summed` meets its contract. The invariant: the first k figures have what is added to them.
use mathlib.Core.Path.{◌≡◌}
use Rattle.grid.proofs.Laws.{summed}
use Rattle.grid.proofs.summed.Given as goal

abbrev pub invariant-loop-k : goal.invariant-loop-k
invariant-loop-k l = l.sums ≡ summed l.initial.sums l.adds l.k
