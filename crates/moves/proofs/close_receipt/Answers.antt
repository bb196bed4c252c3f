-- `moves::close_receipt` meets its contract: three words set.
use Rattle.rules.specs.Ledger.{put_receipt}
use Rattle.rules.specs.Settle.{close_receipt}
use Rattle.moves.proofs.close_receipt.Goals as goal

pub returns : goal.returns
unfolding close_receipt put_receipt
returns c =
    λ K. rw (c.set_receipt-3.ensures, c.set_receipt-2.ensures, c.set_receipt.ensures)
