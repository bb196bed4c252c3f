-- `operations::caps` meets its contract: two words set, of a live wallet.
use lib.Dec.{lit<}
use Rattle.operations.proofs.Sets.{can_set, capped}
use Rattle.operations.proofs.Live.{live_row, is_live}
use Rattle.operations.proofs.caps.Goals as goal

pub set_wallet-requires : goal.set_wallet-requires
set_wallet-requires c =
    can_set _ _ _ _ _ c.requires.counted (live_row _ _ _ _ c.find_wallet-found.ensures _ c.in-Live.is) (lit< tt)

pub set_wallet-requires-2 : goal.set_wallet-requires-2
set_wallet-requires-2 c =
    can_set _ _ _ _ _ c.requires.counted (live_row _ _ _ _ c.find_wallet-found.ensures _ c.in-Live.is) (lit< tt)

pub returns : goal.returns
returns c =
    let target = live_row _ _ _ _ c.find_wallet-found.ensures _ c.in-Live.is in
    λ K. capped K _ _ _ _ _ _ target c.set_wallet.ensures c.set_wallet-2.ensures

pub returns-in_default : goal.returns-in_default
returns-in_default c =
    let lives = c.requires.target in
    absurd (c.in_default.not-Live _ (is_live _ _ _ _ c.find_wallet-found.ensures lives.there lives.unclosed))
