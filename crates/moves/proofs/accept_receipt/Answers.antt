-- `moves::accept_receipt` meets its contract, each way that it ends.
use mathlib.Core.Path.{refl}
use Rattle.moves.proofs.Accepts.{some_link, no_link, link_named, can_end, accepted_plain, accepted_released, accepted_impossible}
use Rattle.moves.proofs.accept_receipt.Goals as goal

pub returns-in_default : goal.returns-in_default
returns-in_default c =
    λ K. accepted_plain K _ _ _ _ _ _ _ _ _ _ refl c.close_receipt.ensures (no_link _ _ _ c.link-linked.ensures c.in_default.not-Some)

pub is_releasable-requires : goal.is_releasable-requires
is_releasable-requires c =
    let says = some_link _ _ _ c.link-linked.ensures _ c.in-Some.is in
    (link_named _ _ _ _ _ _ _ _ c.requires.1 says.link_is says.link_ne, c.requires.1.len)

pub end_escrow-requires : goal.end_escrow-requires
end_escrow-requires c =
    let says = some_link _ _ _ c.link-linked.ensures _ c.in-Some.is in
    can_end _ _ _ _ _ _ _ _ _ c.requires.1 says.link_is says.link_ne c.is_releasable.ensures c.if-is_releasable.true

pub returns-then-is_releasable : goal.returns-then-is_releasable
returns-then-is_releasable c =
    let says = some_link _ _ _ c.link-linked.ensures _ c.in-Some.is in
    λ K. accepted_released K _ _ _ _ _ _ _ _ _ _ _ _ _ says.link_is c.close_receipt.ensures says.link_ne c.is_releasable.ensures c.if-is_releasable.true c.end_escrow.ensures

pub returns : goal.returns
returns c =
    let says = some_link _ _ _ c.link-linked.ensures _ c.in-Some.is in
    λ K. accepted_impossible K _ _ _ _ _ _ _ _ _ _ _ _ says.link_is c.close_receipt.ensures says.link_ne c.is_releasable.ensures c.if-is_releasable.false c.set_receipt.ensures
