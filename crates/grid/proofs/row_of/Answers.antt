-- `grid::row_of` meets its contract.
use mathlib.Core.Path.{◌∙◌}
use Rattle.grid.proofs.Laws.{row_in, row_out}
use Rattle.grid.proofs.row_of.Goals as goal

pub returns-then-op : goal.returns-then-op
returns-then-op c = c.from.ensures ∙ row_in c.args.op c.if-op.true

pub returns-else-op : goal.returns-else-op
returns-else-op c = row_out c.args.op c.if-op.false
