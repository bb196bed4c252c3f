-- `adding::receipt_turns` meets its contract. The invariant: so far the definition's loop is laid out.
use Rattle.adding.proofs.Receipts.{SoFar}
use Rattle.adding.proofs.receipt_turns.Given as goal

abbrev pub invariant-loop-row : goal.invariant-loop-row
invariant-loop-row l =
    SoFar l.edition l.header l.escrows l.receipts l.time l.limit l.rows l.amount l.row l.marks
