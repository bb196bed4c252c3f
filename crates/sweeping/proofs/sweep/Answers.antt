-- `sweeping::sweep` meets its contract: the receipts, then the escrows with the room that is left.
use Rattle.sweeping.proofs.Receipts.{expiring}
use Rattle.sweeping.proofs.Escrows.{swept_by}
use Rattle.sweeping.proofs.sweep.Goals as goal

pub sweep_escrows-expired-requires : goal.sweep_escrows-expired-requires
sweep_escrows-expired-requires c =
    expiring _ _ _ _ _ _ _ _ _ c.args.limit c.sweep_receipts-closed.result c.requires c.sweep_receipts-closed.ensures.1

pub returns : goal.returns
returns c =
    swept_by _ _ _ _ _ _ _ _ _ _ _ _ _ _ c.requires.good.wide c.sweep_receipts-closed.ensures.1 c.sweep_escrows-expired.ensures.1
