-- `operations::dispute` meets its contract: what `close_receipt` says.
use mathlib.Core.Path.{ap}
use Rattle.rules.specs.Settle.{done, dispute}
use Rattle.operations.proofs.dispute.Goals as goal

pub returns : goal.returns
unfolding dispute
returns c = λ K. ap (done 0) (c.close_receipt.ensures K)
