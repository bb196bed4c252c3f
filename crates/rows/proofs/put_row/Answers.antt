-- `rows::put_row` meets its contract: what is left of vs, written from word k on, makes the whole row.
use mathlib.Core.Path.{sym, ◌∙◌}
use Prim.Native.Nat.{◌≤◌, ◌<◌}
use lib.ListN.{length}
use native.Mathlib.Omega.{arith}
use Rattle.rows.proofs.Laws.{row_all, row_next, row_done}
use Rattle.rows.proofs.put_row.Goals as goal

pub loop-k-init : goal.loop-k-init
loop-k-init c = let a = c.args in row_all a.t.now a.len a.row a.vs.now

pub loop-k-preserved : goal.loop-k-preserved
loop-k-preserved c =
    let h : c.loop-k.k < length c.args.vs.now = omega arith in
    c.loop-k.invariant ∙ row_next _ _ _ _ _ _ h c.set.ensures

pub returns : goal.returns
returns c =
    let h : length c.args.vs.now ≤ c.loop-k.k = omega arith in
    sym (c.loop-k.invariant ∙ row_done _ _ _ _ _ h)
