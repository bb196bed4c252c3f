-- `adding::escrow_turns` meets its contract. The invariant: so far the definition's loop has spent this much.
use mathlib.Core.Path.{sym, ◌∙◌}
use native.Mathlib.Omega.{arith}
use Rattle.adding.proofs.Counted.{counted_some, counted_none}
use Rattle.adding.proofs.Escrows.{start, amount_small, next, ended, full}
use Rattle.adding.proofs.escrow_turns.Goals as goal
use Rattle.adding.proofs.escrow_turns.Goals.{in-Some, in_default}

pub loop-row-init : goal.loop-row-init
loop-row-init c = start _ _ _ _ _

pub overflow_add-amount : goal.overflow_add-amount
overflow_add-amount c =
    omega (
      arith,
      c.requires.sweeps.sweeping.small.escrows,
      amount_small _ _ _ _ c.requires _ _ _ _ c.loop-row.invariant _ c.loop-row-test.true (sym c.in-Some.is ∙ c.escrow_turn.ensures),
    )

pub loop-row-preserved : goal.loop-row-preserved
loop-row-preserved c =
    next _ _ _ _ c.requires _ _ _ _ c.loop-row.invariant _ c.loop-row-test.true c.escrow_turn.ensures _ _ c.if-limit-rows.false
    (elim c.match-escrow_turn.branch [
      | in-Some w ↦ counted_some _ _ _ _ _ _ w.in-Some.is w.rows-is w.amount-is
      | in_default w ↦ counted_none _ _ _ _ _ w.in_default.not-Some w.rows-is w.amount-is
    ])

pub returns-after-loop-row : goal.returns-after-loop-row
returns-after-loop-row c =
    λ K S released a. ended _ _ _ _ c.requires _ _ _ _ c.loop-row.invariant c.loop-row-test.false _ _ _ S released a

pub returns-then-limit-rows : goal.returns-then-limit-rows
returns-then-limit-rows c =
    λ K S released a. full _ _ _ _ c.requires _ _ _ _ c.loop-row.invariant c.if-limit-rows.true _ _ _ S released a
