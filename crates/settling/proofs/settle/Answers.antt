-- `settling::settle` meets its contract: the operation, the clock, the journal.
use Rattle.settling.proofs.Settled.{can_enter, header_kept, settled_by}
use native.Mathlib.Omega.{arith}
use Rattle.settling.proofs.Facts.{small}
use Rattle.settling.proofs.settle.Goals as goal

pub operate-word-requires : goal.operate-word-requires
operate-word-requires c = record { journal = _; settles = c.requires }

pub bounds-header-2 : goal.bounds-header-2
bounds-header-2 c =
    omega (arith, (small _ _ _ _ _ _ _ c.requires).whole, c.operate-word.auto.header)

pub enter-requires : goal.enter-requires
enter-requires c =
    can_enter _ _ _ _ _ _ _ _ _ _ _ _ c.requires c.operate-word.ensures

pub shape_of-header : goal.shape_of-header
shape_of-header c =
    header_kept _ _ _ _ _ _ _ _ _ _ _ _ c.requires c.operate-word.ensures c.enter.new.header c.enter.auto.header

pub returns : goal.returns
returns c =
    settled_by _ _ _ _ _ _ _ _ _ _ _ _ c.requires c.operate-word.ensures _ _ c.enter.ensures
