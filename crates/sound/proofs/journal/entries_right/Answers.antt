-- `journal::entries_right` meets its contract: `all` answers whether the test of a row holds of every one.
use mathlib.Core.Path.{refl}
use borrow.Author.Rules.{rules}
use Rattle.rules.specs.Table.{all}
use Rattle.rules.specs.Sound.{entry_tests}
use Rattle.sound.specs.Parts.{entries_in}
use Rattle.index.proofs.Every.{every_below}
use Rattle.sound.proofs.journal.entries_right.Goals as goal

pub returns : goal.returns
returns c = every_below _ _ _ c.args.q (λ i. all (entry_tests (entries_in c.args.j.now) i)) _ refl c.all.ensures.ran (λ x b q k. search rules)
