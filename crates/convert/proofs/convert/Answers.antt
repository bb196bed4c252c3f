-- `convert::convert` meets its contract.
use native.Mathlib.Omega.{arith}
use Rattle.convert.proofs.Turned.{turned_none, turned_more, turned_all}
use borrow.Author.Rules.{rules}
use Rattle.convert.proofs.convert.Goals as goal

pub loop-entry-init : goal.loop-entry-init
loop-entry-init c = turned_none _

pub loop-entry-preserved : goal.loop-entry-preserved
loop-entry-preserved c = turned_more _ _ _ c.loop-entry.invariant (omega arith) c.convert_at.ensures (search rules)

pub returns : goal.returns
returns c = turned_all _ _ _ c.loop-entry.invariant (omega arith)
