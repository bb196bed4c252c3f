-- `rows::put_row` meets its contract: what is left of vs, written from word k on, makes the whole row.
use mathlib.Core.Path.{◌≡◌}
use Rattle.rules.specs.Table.{put_row}
use Rattle.rows.proofs.Laws.{row_from}
use Rattle.rows.proofs.put_row.Given as goal

abbrev pub invariant-loop-k : goal.invariant-loop-k
invariant-loop-k l = put_row l.initial.t l.len l.row l.vs ≡ row_from l.t l.len l.row l.k l.vs
