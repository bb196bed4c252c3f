-- `operations::grant` meets its contract.
use Rattle.operations.proofs.Made.{can_grant, granted_by}
use Rattle.operations.proofs.grant.Goals as goal

pub raise-requires : goal.raise-requires
raise-requires c =
    can_grant _ _ _ _ _ _ c.requires c.ensure_wallet-target.ensures.0 c.ensure_wallet-target.ensures.1

pub returns : goal.returns
returns c =
    granted_by _ _ _ _ _ _ c.requires c.ensure_wallet-target.ensures.0 c.ensure_wallet-target.ensures.1 _ c.raise.ensures
