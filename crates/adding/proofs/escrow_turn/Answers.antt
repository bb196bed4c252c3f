-- `adding::escrow_turn` meets its contract: a due escrow is counted with its amount, any other is passed over.
use Rattle.adding.proofs.Freed.{escrow_expired, escrow_passed}
use Rattle.adding.proofs.escrow_turn.Goals as goal

pub returns-then-is_due : goal.returns-then-is_due
returns-then-is_due c =
    escrow_expired _ _ _ _ _ _ _ c.escrow-state.ensures c.escrow-deadline.ensures c.is_due.ensures _ c.if-is_due.true c.escrow.ensures

pub returns-else-is_due : goal.returns-else-is_due
returns-else-is_due c =
    escrow_passed _ _ _ _ _ _ _ c.escrow-state.ensures c.escrow-deadline.ensures c.is_due.ensures c.if-is_due.false
