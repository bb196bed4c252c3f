-- `sweeping::close_due_receipt` meets its contract, each way.
use Rattle.sweeping.proofs.Turns.{due_accepted, due_lapsed}
use Rattle.sweeping.proofs.close_due_receipt.Goals as goal

pub returns-then-auto-eq1 : goal.returns-then-auto-eq1
returns-then-auto-eq1 c =
    due_accepted _ _ _ _ _ _ _ _ _ _ _ _ c.receipt-auto.ensures c.if-auto-eq1.true c.accept_receipt.ensures

pub returns-else-auto-eq1 : goal.returns-else-auto-eq1
returns-else-auto-eq1 c = due_lapsed _ _ _ _ _ _ _ _ _ c.receipt-auto.ensures c.if-auto-eq1.false c.close_receipt.ensures
