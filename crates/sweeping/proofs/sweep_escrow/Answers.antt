-- `sweeping::sweep_escrow` meets its contract: a due escrow ends and is counted, any other is passed over.
use Rattle.sweeping.proofs.Turns.{escrow_closed, escrow_passed}
use Rattle.sweeping.proofs.sweep_escrow.Goals as goal

pub returns-then-due : goal.returns-then-due
returns-then-due c =
    escrow_closed _ _ _ _ _ _ _ _ _ c.escrow-state.ensures c.escrow-deadline.ensures c.is_due-due.ensures _ _ c.if-due.true c.end_escrow.ensures

pub returns-else-due : goal.returns-else-due
returns-else-due c = escrow_passed _ _ _ _ _ _ _ _ _ c.escrow-state.ensures c.escrow-deadline.ensures c.is_due-due.ensures c.if-due.false
