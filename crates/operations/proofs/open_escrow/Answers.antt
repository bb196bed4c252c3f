-- `operations::open_escrow` meets its contract: the signer is live.
use Rattle.operations.proofs.Pays.{can_hold, can_open, opened}
use Rattle.operations.proofs.Live.{live_row, is_live}
use Rattle.operations.proofs.open_escrow.Goals as goal

pub move_credits-requires : goal.move_credits-requires
move_credits-requires c =
    let signer = live_row _ _ _ _ c.find_wallet-found.ensures _ c.in-Live.is in
    can_hold _ _ _ _ _ _ _ c.requires signer c.ensure_wallet.ensures.1

pub append-requires : goal.append-requires
append-requires c =
    let signer = live_row _ _ _ _ c.find_wallet-found.ensures _ c.in-Live.is in
    can_open _ _ _ _ _ _ _ c.requires signer c.ensure_wallet.ensures.1

pub returns : goal.returns
returns c =
    let signer = live_row _ _ _ _ c.find_wallet-found.ensures _ c.in-Live.is in
    opened _ _ _ _ _ _ _ c.requires signer c.ensure_wallet.ensures.1 _ _ _ _ _ c.move_credits.ensures c.append.ensures.0 c.append.ensures.1 c.append.ensures.2

pub returns-in_default : goal.returns-in_default
returns-in_default c =
    let lives = c.requires.paying.signer in
    absurd (c.in_default.not-Live _ (is_live _ _ _ _ c.find_wallet-found.ensures lives.there lives.unclosed))
