-- `sweeping::sweep_receipt` meets its contract: a due receipt is closed and counted, any other is passed over.
use Rattle.sweeping.proofs.Turns.{receipt_closed, receipt_passed}
use Rattle.sweeping.proofs.sweep_receipt.Goals as goal

pub returns-then-due : goal.returns-then-due
returns-then-due c =
    receipt_closed _ _ _ _ _ _ _ _ _ _ c.receipt-state.ensures c.receipt-deadline.ensures c.is_due-due.ensures _ _ _ c.if-due.true c.close_due_receipt.ensures

pub returns-else-due : goal.returns-else-due
returns-else-due c = receipt_passed _ _ _ _ _ _ _ _ _ _ c.receipt-state.ensures c.receipt-deadline.ensures c.is_due-due.ensures c.if-due.false
