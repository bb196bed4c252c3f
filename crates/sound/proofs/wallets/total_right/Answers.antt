-- `wallets::total_right` meets its contract. The loop's invariant: what is left and the credits of the rows passed are what was granted.
use native.Mathlib.Omega.{arith}
use mathlib.Core.Path.{◌≡◌}
use Rattle.rules.proofs.Counts.{sum_none, sum_step}
use Rattle.sound.proofs.Totals.{both, credits_more, credits_left}
use Rattle.sound.proofs.wallets.total_right.Goals as goal

pub loop-i-init : goal.loop-i-init
loop-i-init c = omega (arith, sum_none (both c.args.w.now))

pub returns-in_default : goal.returns-in_default
returns-in_default c = credits_more _ _ _ c.loop-i.i c.loop-i-test.true (omega arith)

pub returns-in_default-checked_sub : goal.returns-in_default-checked_sub
returns-in_default-checked_sub c = credits_more _ _ _ c.loop-i.i c.loop-i-test.true (omega arith)

pub loop-i-preserved : goal.loop-i-preserved
loop-i-preserved c = omega (arith, sum_step c.loop-i.i (both c.args.w.now))

pub returns : goal.returns
returns c =
    let e : c.loop-i.i ≡ c.args.n = omega arith in
    credits_left _ _ _ _ (rw e at c.loop-i.invariant) c.if-granted-gt-MAX_GRANTED_MICRO.false
