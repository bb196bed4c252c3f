-- `grid::summed` meets its contract: that there are five figures is what the type says of them; each sum fits, as the caller has shown.
use native.Mathlib.Omega.{arith}
use Rattle.grid.proofs.Laws.{none_summed, next_fits, one_summed, all_summed}
use Rattle.grid.proofs.summed.Goals as goal

pub loop-k-init : goal.loop-k-init
loop-k-init c = none_summed c.args.figures c.args.adds c.well_formed.0.1.0.1

pub overflow_add-sums : goal.overflow_add-sums
overflow_add-sums c = next_fits c.args.figures c.args.adds _ c.loop-k-test.true c.loop-k.invariant (c.requires _ c.loop-k-test.true)

pub loop-k-preserved : goal.loop-k-preserved
loop-k-preserved c = one_summed c.args.figures c.args.adds _ c.loop-k-test.true c.loop-k.invariant

pub returns : goal.returns
returns c = all_summed c.args.figures c.args.adds c.loop-k.k (omega arith) c.loop-k.invariant
