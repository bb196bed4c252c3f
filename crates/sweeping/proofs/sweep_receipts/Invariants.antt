-- `sweeping::sweep_receipts` meets its contract. The invariant: so far it is the definition's loop.
use Rattle.sweeping.proofs.Receipts.{SoFar}
use Rattle.sweeping.proofs.sweep_receipts.Given as goal

abbrev pub invariant-loop-row : goal.invariant-loop-row
invariant-loop-row l =
    SoFar l.edition l.header l.initial.wallets l.initial.escrows l.initial.receipts l.time l.limit l.closed l.row l.wallets l.escrows l.receipts
