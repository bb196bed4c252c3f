-- `escrows::parties_right` meets its contract: the index is filled from nothing, the sums from zeros, and each part answers for its own tests.
use Rattle.index.proofs.Walks.{within_empty}
use Rattle.sound.proofs.Parties.{held_none, same_ids, indexed, wrong_escrow, locked_all}
use Rattle.sound.proofs.escrows.parties_right.Goals as goal

pub fill-requires : goal.fill-requires
fill-requires c = (c.requires.few, within_empty)

pub returns-in_default : goal.returns-in_default
returns-in_default c = same_ids _ _ _ _ _ _ _ _ c.copy_ids.ensures c.fill.ensures c.in_default.is

pub hold_all-requires : goal.hold_all-requires
hold_all-requires c = (
  c.requires,
  indexed _ _ _ _ _ _ _ _ _ c.requires c.copy_ids.ensures c.fill.ensures c.in-Some.is,
  held_none _ _ _ _,
)

pub returns-then-not-hold_all : goal.returns-then-not-hold_all
returns-then-not-hold_all c =
    wrong_escrow _ _ _ _ _ _ _ (indexed _ _ _ _ _ _ _ _ _ c.requires c.copy_ids.ensures c.fill.ensures c.in-Some.is) _ _
    c.hold_all.ensures c.if-not-hold_all.true

pub returns : goal.returns
returns c =
    locked_all _ _ _ _ _ _ _ (indexed _ _ _ _ _ _ _ _ _ c.requires c.copy_ids.ensures c.fill.ensures c.in-Some.is) _ _
    c.hold_all.ensures c.if-not-hold_all.false _ c.locked_right.ensures
