-- `settle::read_full` meets its contract. The loop's invariant: no more than the buffer holds has been read.
use Rattle.std.proofs.Common.{◌≤◌}
use Rattle.settle.proofs.read_full.Given as goal

abbrev pub invariant-loop : goal.invariant-loop
invariant-loop g l = l.n ≤ 108
