-- `adding::escrow_turns` meets its contract. The invariant: so far the definition's loop has spent this much.
use Rattle.adding.proofs.Escrows.{SoFar}
use Rattle.adding.proofs.escrow_turns.Given as goal

abbrev pub invariant-loop-row : goal.invariant-loop-row
invariant-loop-row l =
    SoFar l.edition l.header l.escrows l.time l.limit l.rows l.amount l.row
