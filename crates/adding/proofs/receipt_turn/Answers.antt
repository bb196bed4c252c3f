-- `adding::receipt_turn` meets its contract: a due receipt is counted with what it releases, any other is passed over.
use Rattle.adding.proofs.Freed.{turn_closed, turn_passed}
use Rattle.adding.proofs.receipt_turn.Goals as goal

pub returns-then-is_due : goal.returns-then-is_due
returns-then-is_due c =
    turn_closed _ _ _ _ _ _ _ _ _ c.receipt-state.ensures c.receipt-deadline.ensures c.is_due.ensures _ _ c.if-is_due.true c.auto_accepted.ensures.0 c.auto_accepted.ensures.1

pub returns-else-is_due : goal.returns-else-is_due
returns-else-is_due c =
    turn_passed _ _ _ _ _ _ _ _ _ c.receipt-state.ensures c.receipt-deadline.ensures c.is_due.ensures c.if-is_due.false
