-- `operations::transfer` meets its contract: the signer is live.
use Rattle.operations.proofs.Pays.{can_transfer, transferred}
use Rattle.operations.proofs.Live.{live_row, is_live}
use Rattle.operations.proofs.transfer.Goals as goal

pub move_credits-requires : goal.move_credits-requires
move_credits-requires c =
    let signer = live_row _ _ _ _ c.find_wallet-found.ensures _ c.in-Live.is in
    can_transfer _ _ _ _ _ _ c.requires signer c.ensure_wallet-target.ensures.1 _ c.ensure_wallet-target.ensures.0

pub returns : goal.returns
returns c =
    let signer = live_row _ _ _ _ c.find_wallet-found.ensures _ c.in-Live.is in
    transferred _ _ _ _ _ _ c.requires signer c.ensure_wallet-target.ensures.1 _ c.ensure_wallet-target.ensures.0 _ c.move_credits.ensures

pub returns-in_default : goal.returns-in_default
returns-in_default c =
    let lives = c.requires.signer in
    absurd (c.in_default.not-Live _ (is_live _ _ _ _ c.find_wallet-found.ensures lives.there lives.unclosed))
