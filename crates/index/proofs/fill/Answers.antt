-- `index::fill` meets its contract. The loop's invariant: the walk of each id passed meets its number.
use native.Mathlib.Omega.{arith}
use mathlib.Core.Path.{◌≡◌}
use Rattle.index.proofs.Walks.{back_more, within_more, filled_all}
use Rattle.index.proofs.fill.Goals as goal

pub loop-i-preserved : goal.loop-i-preserved
loop-i-preserved c =
    let v = c.loop-i.invariant in
    (within_more _ _ _ v.0, back_more _ _ _ _ v.1 c.in-Some.ensures)

pub returns : goal.returns
returns c =
    let e : c.loop-i.i ≡ c.args.n = omega arith in
    let v = rw e at c.loop-i.invariant in
    filled_all _ _ _ _ v.0 v.1
