-- `grid::passing` meets its contract. The invariant: none of the first k figures passes.
use Rattle.grid.proofs.Laws.{Left}
use Rattle.grid.proofs.passing.Given as goal

abbrev pub invariant-loop-k : goal.invariant-loop-k
invariant-loop-k l = Left l.figures l.adds l.count l.k
