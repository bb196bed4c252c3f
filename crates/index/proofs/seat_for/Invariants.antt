-- `index::seat_for` meets its contract. The loop's invariant: the walk has come to p.
use Prim.Native.Nat.{◌<◌}
use Rattle.index.specs.Index.{PLACES}
use Rattle.index.proofs.Walks.{OnWalk}
use Rattle.index.proofs.seat_for.Given as goal

abbrev pub invariant-loop-step : goal.invariant-loop-step
invariant-loop-step l = (l.p < PLACES) × OnWalk l.ids l.t l.x l.step l.p l.y
