-- `wallets::wallets_right` meets its contract: `all` answers whether the test of a row holds of every one.
use mathlib.Core.Path.{refl}
use borrow.Author.Rules.{rules}
use Rattle.rules.specs.Table.{all}
use Rattle.rules.specs.Sound.{wallet_tests}
use Rattle.sound.specs.Parts.{wallets_in}
use Rattle.index.proofs.Every.{every_below}
use Rattle.sound.proofs.wallets.wallets_right.Goals as goal

pub returns : goal.returns
returns c = every_below _ _ _ c.args.n (λ i. all (wallet_tests (wallets_in c.args.w.now c.args.n) i)) _ refl c.all.ensures.ran (λ x b q k. search rules)
