-- `moves::close_escrow` meets its contract: three words set.
use Rattle.rules.specs.Ledger.{put_escrow}
use Rattle.moves.proofs.close_escrow.Goals as goal

pub returns : goal.returns
unfolding put_escrow
returns c =
    λ K. rw (c.set_escrow-3.ensures, c.set_escrow-2.ensures, c.set_escrow.ensures)
