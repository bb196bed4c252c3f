-- `adding::receipt_turns` meets its contract. The invariant: so far the definition's loop is laid out.
use mathlib.Core.Path.{sym, ◌∙◌}
use native.Mathlib.Omega.{arith}
use Rattle.adding.proofs.Counted.{counted_some, counted_none}
use Rattle.adding.proofs.Receipts.{start, amount_small, next, ended, full}
use Rattle.adding.proofs.receipt_turns.Goals as goal
use Rattle.adding.proofs.receipt_turns.Goals.{in-Some, in_default}

pub loop-row-init : goal.loop-row-init
loop-row-init c = start _ _ _ _ _ _ _ c.requires.1

pub overflow_add-amount : goal.overflow_add-amount
overflow_add-amount c =
    omega (
      arith,
      c.requires.0.sweeping.small.receipts,
      amount_small _ _ _ _ _ c.requires.0 _ _ _ _ _ c.loop-row.invariant c.receipt_turn.new.marks _ c.loop-row-test.true (sym c.in-Some.is ∙ c.receipt_turn.ensures.0),
    )

pub loop-row-preserved : goal.loop-row-preserved
loop-row-preserved c =
    let turn = c.receipt_turn.ensures in
    next _ _ _ _ _ c.requires.0 _ _ _ _ _ c.loop-row.invariant _ _ c.loop-row-test.true turn.0 _ _ c.if-limit-rows.false turn.1
    (elim c.match-receipt_turn.branch [
      | in-Some w ↦ counted_some _ _ _ _ _ _ w.in-Some.is w.rows-is w.amount-is
      | in_default w ↦ counted_none _ _ _ _ _ w.in_default.not-Some w.rows-is w.amount-is
    ])

pub returns-after-loop-row : goal.returns-after-loop-row
returns-after-loop-row c =
    (c.loop-row.invariant.room, λ K g. ended _ _ _ _ _ c.requires.0 _ _ _ _ _ c.loop-row.invariant c.loop-row-test.false _ _ g)

pub returns-then-limit-rows : goal.returns-then-limit-rows
returns-then-limit-rows c =
    (c.loop-row.invariant.room, λ K g. full _ _ _ _ _ c.requires.0 _ _ _ _ _ c.loop-row.invariant c.if-limit-rows.true _ _ g)
