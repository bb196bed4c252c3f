-- `sums::counted` meets its contract: so far the sum is that of the rows before i.
use mathlib.Core.Path.{sym}
use Rattle.payments.proofs.Whole.{counted_none, counted_next, counted_fits}
use borrow.Author.Rules.{rules}
use Rattle.payments.proofs.sums.counted.Goals as goal

pub loop-i-init : goal.loop-i-init
loop-i-init c = sym (counted_none _ _ _)

pub overflow_add-sum : goal.overflow_add-sum
overflow_add-sum c =
    let more = rw (c.from.ensures, c.from-in-loop-i.ensures) at c.choose-sum.ensures in
    record { fits = counted_fits _ _ _ _ c.requires c.loop-i.i _ _ (search rules) c.loop-i.invariant more }

pub loop-i-preserved : goal.loop-i-preserved
loop-i-preserved c =
    let more = rw (c.from.ensures, c.from-in-loop-i.ensures) at c.choose-sum.ensures in
    counted_next _ _ _ c.loop-i.i _ _ c.loop-i.invariant more
