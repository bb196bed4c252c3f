-- `rows::find_row` meets its contract: no row before i has the id.
use Prim.Native.Nat.{◌-◌, ◌≤◌}
use Rattle.rows.proofs.Laws.{Passed}
use Rattle.rows.proofs.find_row.Given as goal

abbrev pub invariant-loop-i : goal.invariant-loop-i
invariant-loop-i l = (l.i ≤ l.n) × Passed l.t l.id l.i

abbrev pub decreases-loop-i : goal.decreases-loop-i
decreases-loop-i l = l.n - l.i
