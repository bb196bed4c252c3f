-- `moves::end_escrow` meets its contract: what is read of the escrow first, then the escrow closed and the credits moved.
use Rattle.moves.proofs.Ends.{can_move, ended}
use Rattle.moves.proofs.end_escrow.Goals as goal

pub move_credits-requires : goal.move_credits-requires
move_credits-requires c =
    can_move _ _ _ _ _ _ _ _ _ _ c.args.state c.escrow-from.ensures c.escrow-to.ensures c.escrow-amount.ensures c.party-sender.ensures c.payee-paid.ensures c.requires.1

pub returns : goal.returns
returns c =
    ended _ _ _ _ _ _ _ _ _ _ _ c.escrow-from.ensures c.escrow-to.ensures c.escrow-amount.ensures c.party-sender.ensures c.payee-paid.ensures _ _ _ _ c.close_escrow.ensures c.move_credits.ensures
