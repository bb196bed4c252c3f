-- `receipts::receipts_right` meets its contract: `all` answers whether the test of a row holds of every one.
use mathlib.Core.Path.{refl}
use borrow.Author.Rules.{rules}
use Rattle.rules.specs.Table.{all}
use Rattle.rules.specs.Sound.{receipt_tests}
use Rattle.sound.specs.Parts.{receipts_in}
use Rattle.index.proofs.Every.{every_below}
use Rattle.sound.proofs.receipts.receipts_right.Goals as goal

pub returns : goal.returns
returns c = every_below _ _ _ c.args.p (λ i. all (receipt_tests (receipts_in c.args.len c.args.e.now c.args.m c.args.r.now) i)) _ refl c.all.ensures.ran (λ x b q k. search rules)
