-- `sweeping::sweep_receipts` meets its contract. The invariant: so far it is the definition's loop.
use Rattle.sweeping.proofs.Receipts.{start, next, can_accept, ended, full}
use Rattle.sweeping.proofs.sweep_receipts.Goals as goal

pub loop-row-init : goal.loop-row-init
loop-row-init c = start _ _ _ _ _ _ _

pub sweep_receipt-swept-requires : goal.sweep_receipt-swept-requires
sweep_receipt-swept-requires c = can_accept _ _ _ _ _ _ _ _ _ _ _ _ c.loop-row.invariant c.requires c.loop-row-test.true

pub loop-row-preserved : goal.loop-row-preserved
loop-row-preserved c =
    let turn = c.sweep_receipt-swept in
    next _ _ _ _ _ _ _ _ _ _ _ _ c.loop-row.invariant _ _ _ _ _ c.loop-row-test.true c.if-limit-closed.false
    turn.auto.wallets turn.auto.escrows turn.auto.receipts c.from-closed.ensures turn.ensures

pub returns-after-loop-row : goal.returns-after-loop-row
returns-after-loop-row c = ended _ _ _ _ _ _ _ _ _ _ _ _ c.loop-row.invariant c.loop-row-test.false

pub returns-then-limit-closed : goal.returns-then-limit-closed
returns-then-limit-closed c = full _ _ _ _ _ _ _ _ _ _ _ _ c.loop-row.invariant c.if-limit-closed.true
