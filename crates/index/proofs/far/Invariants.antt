-- `index::far` meets its contract. The loop's invariant: the walk is at a number within n, and what was hit has the id.
use mathlib.Core.Path.{◌≡◌}
use Prim.Native.Nat.{◌≤◌, ◌<◌}
use lib.ListN.{get_or}
use Rattle.index.proofs.far.Given as goal

abbrev pub invariant-loop : goal.invariant-loop
invariant-loop l = (l.s ≤ l.n) × (l.hit ≤ l.n) × (0 < l.hit → get_or l.ids l.hit 0 ≡ l.x)
