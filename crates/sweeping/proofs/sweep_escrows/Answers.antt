-- `sweeping::sweep_escrows` meets its contract. The invariant: so far it is the definition's loop.
use Rattle.sweeping.proofs.Escrows.{start, next, can_expire, full}
use Rattle.sweeping.proofs.sweep_escrows.Goals as goal

pub loop-row-init : goal.loop-row-init
loop-row-init c = start _ _ _ _ _ _

pub sweep_escrow-swept-requires : goal.sweep_escrow-swept-requires
sweep_escrow-swept-requires c = can_expire _ _ _ _ _ _ _ _ _ _ c.loop-row.invariant c.requires c.loop-row-test.true

pub loop-row-preserved : goal.loop-row-preserved
loop-row-preserved c =
    let turn = c.sweep_escrow-swept in
    next _ _ _ _ _ _ _ _ _ _ c.loop-row.invariant _ _ _ _ c.loop-row-test.true c.if-limit-closed.false
    turn.auto.wallets turn.auto.escrows c.from-closed.ensures turn.ensures

pub returns-then-limit-closed : goal.returns-then-limit-closed
returns-then-limit-closed c = full _ _ _ _ _ _ _ _ _ _ c.loop-row.invariant c.if-limit-closed.true
