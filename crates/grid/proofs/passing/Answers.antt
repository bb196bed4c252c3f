-- `grid::passing` meets its contract: the first figure that passes is named, and behind the figures the cell is asked (Laws.antt).
use mathlib.Core.Path.{refl, sym, ◌∙◌}
use native.Mathlib.Omega.{arith}
use Rattle.grid.proofs.Laws.{names, one_more, names_the_cell, names_nothing}
use Rattle.grid.proofs.passing.Goals as goal

pub loop-k-init : goal.loop-k-init
loop-k-init c = refl

pub returns-then-exceeds : goal.returns-then-exceeds
returns-then-exceeds c =
    names c.args.figures c.args.adds c.args.count _ c.loop-k-test.true (sym c.exceeds.ensures ∙ c.if-exceeds.true) c.loop-k.invariant

pub loop-k-preserved : goal.loop-k-preserved
loop-k-preserved c =
    one_more c.args.figures c.args.adds c.args.count _ c.loop-k-test.true (sym c.exceeds.ensures ∙ c.if-exceeds.false) c.loop-k.invariant

pub returns-then-exceeds-2 : goal.returns-then-exceeds-2
returns-then-exceeds-2 c =
    names_the_cell c.args.figures c.args.adds c.args.count c.loop-k.k (omega arith) c.loop-k.invariant (sym c.exceeds-2.ensures ∙ c.if-exceeds-2.true)

pub returns : goal.returns
returns c =
    names_nothing c.args.figures c.args.adds c.args.count c.loop-k.k (omega arith) c.loop-k.invariant (sym c.exceeds-2.ensures ∙ c.if-exceeds-2.false)
