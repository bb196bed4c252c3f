-- `adding::accepted` meets its contract: no link, or the amount of the linked escrow, if it is open and not stale.
use mathlib.Core.Path.{refl}
use Prim.Native.Nat.{◌-◌}
use lib.Dec.{lit<}
use Rattle.moves.proofs.Accepts.{no_link}
use Rattle.adding.proofs.Freed.{Linked, linked_so, freed_no_link, freed_linked}
use Rattle.adding.proofs.accepted.Goals as goal
use Rattle.adding.proofs.accepted.Goals.{In-Some}

-- what is known of the escrow that is linked
linked : (c : In-Some) → Linked c.args.receipts.now (c.args.number.0 - 1) c.in-Some.link.0
linked c = linked_so _ _ _ _ _ c.requires.1 c.link.ensures c.in-Some.is

pub returns-in_default : goal.returns-in_default
returns-in_default c = freed_no_link _ _ _ _ _ _ refl (no_link _ _ _ c.link.ensures c.in_default.not-Some)

pub escrow-amount-requires : goal.escrow-amount-requires
escrow-amount-requires c = ((linked (goal.at.escrow-amount-requires c).In-Some).names, c.requires.1.len, lit< tt)

pub is_releasable-releasable-requires : goal.is_releasable-releasable-requires
is_releasable-releasable-requires c = ((linked (goal.at.is_releasable-releasable-requires c).In-Some).names, c.requires.1.len)

pub returns : goal.returns
returns c =
    let says = linked (goal.at.returns c).In-Some in
    freed_linked _ _ _ _ _ _ says.link_is _ _ _ says.link_ne c.escrow-amount.ensures c.is_releasable-releasable.ensures c.choose.ensures
