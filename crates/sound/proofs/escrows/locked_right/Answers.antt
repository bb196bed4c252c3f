-- `escrows::locked_right` meets its contract: `all` answers whether the test of a row holds of every one.
use mathlib.Core.Path.{refl}
use borrow.Author.Rules.{rules}
use Rattle.sound.specs.Parts.{locked_is}
use Rattle.index.proofs.Every.{every_below}
use Rattle.sound.proofs.escrows.locked_right.Goals as goal

pub returns : goal.returns
returns c = every_below _ _ _ c.args.n (locked_is c.args.w.now c.args.sums.now) _ refl c.all.ensures.ran (λ x b q k. search rules)
