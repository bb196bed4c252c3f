-- `index::near` meets its contract. The loop's invariant: the walk is at a number within n.
use Prim.Native.Nat.{◌≤◌}
use Rattle.index.proofs.near.Given as goal

abbrev pub invariant-loop : goal.invariant-loop
invariant-loop l = l.a ≤ l.n
