-- `index::differ_each` meets its contract: `all` answers whether the test of a row holds of every one.
use mathlib.Core.Path.{refl}
use borrow.Author.Rules.{rules}
use Rattle.rules.specs.Table.{every}
use Rattle.index.specs.Index.{differs}
use Rattle.index.proofs.Every.{every_below}
use Rattle.index.proofs.differ_each.Goals as goal

pub returns : goal.returns
returns c = every_below _ _ _ c.args.n (λ i. every i (differs c.args.ids.now i)) _ refl c.all.ensures.ran (λ x b q k. search rules)
