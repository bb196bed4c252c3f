-- `word_bytes::put_le` meets its contract: what is left to store makes the whole.
use mathlib.Core.Path.{sym, ◌∙◌}
use native.Mathlib.Omega.{arith}
use Rattle.word_bytes.proofs.Stores.{le_all, le_next, le_done}
use Rattle.word_bytes.proofs.put_le.Goals as goal

pub loop-p-preserved : goal.loop-p-preserved
loop-p-preserved c = c.loop-p.invariant ∙ le_next _ _ _ _ _ (omega arith)

pub returns : goal.returns
returns c = sym (c.loop-p.invariant ∙ le_done _ _ _ _ (omega arith)) ∙ le_all _ _ _ _
