-- `index::copy_ids` meets its contract. The loop's invariant: the ids of the rows passed are copied.
use Rattle.index.specs.Index.{Copied}
use Rattle.index.proofs.copy_ids.Given as goal

abbrev pub invariant-loop-i : goal.invariant-loop-i
invariant-loop-i l = Copied l.w l.i l.ids
