-- `index::differs_before` meets its contract: the fold takes the test of each row.
use mathlib.Core.Path.{refl, ◌∙◌}
use mathlib.Core.Bool.{true, ◌&&◌}
use native.Mathlib.Omega.{arith}
use Rattle.std.proofs.lemmas.Iterator.{YieldsList-from_range}
use Rattle.std.proofs.lemmas.Iterator.Consumers.{fold_from_yields_List}
use borrow.Author.Rules.{rules}
use Rattle.index.specs.Index.{differs}
use Rattle.index.proofs.Every.{every_fold}
use Rattle.index.proofs.differs_before.Goals as goal

pub returns : goal.returns
returns c =
    let p = differs c.args.ids.now c.args.i in
    fold_from_yields_List _ (λ b j. b && p j) true _ c.fold.ensures.ran (YieldsList-from_range 0 c.args.i c.args.i refl (omega arith))
    (λ b j r q k. search rules)
    ∙ every_fold c.args.i p
