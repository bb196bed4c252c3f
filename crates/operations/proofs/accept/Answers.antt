-- `operations::accept` meets its contract: what `accept_receipt` says.
use Rattle.rules.specs.Settle.{accept}
use Rattle.operations.proofs.accept.Goals as goal

pub returns : goal.returns
unfolding accept
returns c = c.accept_receipt.ensures
