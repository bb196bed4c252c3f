-- `report::report_afresh` meets its contract: the lengths decide, then whether a figure was named; otherwise the tables are started, and ready for the
-- first entry.
use mathlib.Core.Path.{ap}
use mathlib.Core.Bool.{not}
use Rattle.report.proofs.Afresh.{wrong_length, had_stopped, ready_first, read_on}
use Rattle.report.proofs.report_afresh.Goals as goal

pub returns-then-not-lengths_right : goal.returns-then-not-lengths_right
returns-then-not-lengths_right c = rw c.from.ensures (wrong_length _ c.lengths_right.ensures _ c.args.recording.now (ap not c.if-not-lengths_right.true))

pub returns-then-named-ne0 : goal.returns-then-named-ne0
returns-then-named-ne0 c = had_stopped _ c.lengths_right.ensures _ c.args.recording.now (ap not c.if-not-lengths_right.false) c.if-named-ne0.true

pub report_on-requires : goal.report_on-requires
report_on-requires c = (
  c.requires,
  ready_first _ c.lengths_right.ensures (ap not c.if-not-lengths_right.false) c.fresh.ensures c.requires,
  c.if-named-ne0.false,
)

pub returns : goal.returns
returns c = read_on _ c.lengths_right.ensures _ c.args.recording.now (ap not c.if-not-lengths_right.false) c.fresh.ensures c.if-named-ne0.false c.report_on.ensures
