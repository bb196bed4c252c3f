-- `operations::claim` meets its contract: a receipt's row is added.
use Rattle.operations.proofs.Sets.{claimed}
use Rattle.operations.proofs.claim.Goals as goal

pub returns : goal.returns
returns c =
    λ K. claimed K _ _ _ _ _ _ _ c.auto_or_freeze-auto.ensures c.append.ensures.0 c.append.ensures.1 c.append.ensures.2
