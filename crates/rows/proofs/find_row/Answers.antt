-- `rows::find_row` meets its contract: no row before i has the id.
use native.Mathlib.Omega.{arith}
use Rattle.rows.proofs.Laws.{pass_none, pass, found, none}
use Rattle.rows.proofs.find_row.Goals as goal

pub loop-i-init : goal.loop-i-init
loop-i-init c = (omega arith, pass_none _ _)

pub loop-i-preserved : goal.loop-i-preserved
loop-i-preserved c = (omega arith, pass _ _ _ c.loop-i.invariant.1 c.if-t-i.false)

pub returns-then-n-i : goal.returns-then-n-i
returns-then-n-i c = none _ _ _ _ c.if-n-i.true c.loop-i.invariant.1

pub returns-then-t-i : goal.returns-then-t-i
returns-then-t-i c = found _ _ _ _ (omega arith) c.loop-i.invariant.1 c.if-t-i.true
