-- `operations::freeze` meets its contract: one word set, of the header or of a live wallet.
use lib.Dec.{lit<}
use Rattle.operations.proofs.Sets.{can_set, system_frozen, wallet_frozen}
use Rattle.operations.proofs.Live.{live_row, is_live}
use Rattle.operations.proofs.freeze.Goals as goal

pub returns-then-s-eq0 : goal.returns-then-s-eq0
returns-then-s-eq0 c = λ K. system_frozen K _ _ _ _ c.auto_or_freeze-frozen.ensures c.if-s-eq0.true

pub set_wallet-requires : goal.set_wallet-requires
set_wallet-requires c =
    can_set _ _ _ _ _ c.requires.counted (live_row _ _ _ _ c.find_wallet-found.ensures _ c.in-Live.is) (lit< tt)

pub returns : goal.returns
returns c =
    let target = live_row _ _ _ _ c.find_wallet-found.ensures _ c.in-Live.is in
    λ K. wallet_frozen K _ _ _ _ _ _ c.auto_or_freeze-frozen.ensures c.if-s-eq0.false target c.set_wallet.ensures

pub returns-in_default : goal.returns-in_default
returns-in_default c =
    let lives = (c.requires.target c.if-s-eq0.false) in
    absurd (c.in_default.not-Live _ (is_live _ _ _ _ c.find_wallet-found.ensures lives.there lives.unclosed))
