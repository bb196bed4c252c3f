-- `reading::look` meets its contract: `Sofar` holds of the rows read, and is carried on by each row that passes.
use Rattle.reading.proofs.Sofar.{wrong_row, next, late, in_time}
use Rattle.reading.proofs.look.Goals as goal

pub returns-then-paid-amount : goal.returns-then-paid-amount
returns-then-paid-amount c =
    wrong_row _ _ _ _ _ _ _ _ _ c.loop-row.invariant c.loop-row-test.true _ _ c.paid-amount.ensures c.paid.ensures _ _ c.if-paid-amount.true

pub loop-row-preserved : goal.loop-row-preserved
loop-row-preserved c =
    next _ _ _ _ _ _ _ _ _ c.loop-row.invariant c.loop-row-test.true _ _ c.paid-amount.ensures c.paid.ensures
    _ _ _ _ c.if-paid-amount.false c.saturating_sub-since.ensures c.uses.ensures c.choose-found.ensures c.spends-spent.ensures

pub returns-then-times-gt-LAST_TIME_MS : goal.returns-then-times-gt-LAST_TIME_MS
returns-then-times-gt-LAST_TIME_MS c = late _ _ _ _ _ _ _ _ _ c.loop-row.invariant c.loop-row-test.false _ _ c.if-times-gt-LAST_TIME_MS.true

pub returns : goal.returns
returns c = in_time _ _ _ _ _ _ _ _ _ c.loop-row.invariant c.loop-row-test.false c.if-times-gt-LAST_TIME_MS.false
