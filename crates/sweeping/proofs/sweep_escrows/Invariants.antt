-- `sweeping::sweep_escrows` meets its contract. The invariant: so far it is the definition's loop.
use Rattle.sweeping.proofs.Escrows.{SoFar}
use Rattle.sweeping.proofs.sweep_escrows.Given as goal

abbrev pub invariant-loop-row : goal.invariant-loop-row
invariant-loop-row l =
    SoFar l.edition l.header l.initial.wallets l.initial.escrows l.time l.limit l.closed l.row l.wallets l.escrows
