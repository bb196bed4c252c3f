-- `index::fill` meets its contract. The loop's invariant: the walk of each id passed meets its number.
use Rattle.index.specs.Index.{Within}
use Rattle.index.proofs.Walks.{Back}
use Rattle.index.proofs.fill.Given as goal

abbrev pub invariant-loop-i : goal.invariant-loop-i
invariant-loop-i l = Within l.i l.t × Back l.ids l.i l.t
