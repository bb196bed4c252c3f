-- `adding::auto_accepted` meets its contract, each way that it ends.
use mathlib.Core.Path.{refl}
use native.Mathlib.Omega.{arith}
use Prim.Native.Nat.{◌-◌}
use lib.Dec.{lit<}
use Rattle.moves.proofs.Accepts.{no_link}
use Rattle.adding.proofs.Freed.{Linked, linked_so, not_auto, not_linked, was_marked, not_fresh, released_now}
use Rattle.adding.proofs.auto_accepted.Goals as goal
use Rattle.adding.proofs.auto_accepted.Goals.{In-Some}

-- what is known of the escrow that is linked
linked : (c : In-Some) → Linked c.args.receipts.now (c.args.number.0 - 1) c.in-Some.link.0
linked c = linked_so _ _ _ _ _ c.requires.1 c.link.ensures c.in-Some.is

pub returns-then-auto-ne1 : goal.returns-then-auto-ne1
returns-then-auto-ne1 c = not_auto _ _ _ _ _ _ _ c.receipt-auto.ensures c.if-auto-ne1.true

pub returns-in_default : goal.returns-in_default
returns-in_default c = not_linked _ _ _ _ _ _ _ _ c.receipt-auto.ensures refl (no_link _ _ _ c.link.ensures c.in_default.not-Some)

pub overflow_sub-row : goal.overflow_sub-row
overflow_sub-row c = omega (arith, (linked (goal.at.overflow_sub-row c).In-Some).names.low)

pub bounds-marks-row : goal.bounds-marks-row
bounds-marks-row c =
    let says = linked (goal.at.bounds-marks-row c).In-Some in
    omega (arith, says.high, says.names.low)

pub returns-then-marks-row : goal.returns-then-marks-row
returns-then-marks-row c =
    let says = linked (goal.at.returns-then-marks-row c).In-Some in
    was_marked _ _ _ _ _ _ _ _ c.receipt-auto.ensures says.link_is c.if-marks-row.true

pub is_releasable-requires : goal.is_releasable-requires
is_releasable-requires c = ((linked (goal.at.is_releasable-requires c).In-Some).names, c.requires.1.len)

pub bounds-marks-row-then-is_releasable : goal.bounds-marks-row-then-is_releasable
bounds-marks-row-then-is_releasable c =
    let says = linked (goal.at.bounds-marks-row-then-is_releasable c).In-Some in
    omega (arith, says.high, says.names.low)

pub escrow-requires : goal.escrow-requires
escrow-requires c = ((linked (goal.at.escrow-requires c).In-Some).names, c.requires.1.len, lit< tt)

pub returns-then-is_releasable : goal.returns-then-is_releasable
returns-then-is_releasable c =
    let says = linked (goal.at.returns-then-is_releasable c).In-Some in
    released_now _ _ _ _ _ _ _ _ c.receipt-auto.ensures says.link_is _ _ _ c.if-auto-ne1.false says.link_ne c.if-marks-row.false c.is_releasable.ensures c.if-is_releasable.true c.escrow.ensures refl

pub returns : goal.returns
returns c =
    let says = linked (goal.at.returns c).In-Some in
    not_fresh _ _ _ _ _ _ _ _ c.receipt-auto.ensures says.link_is _ c.is_releasable.ensures c.if-is_releasable.false
