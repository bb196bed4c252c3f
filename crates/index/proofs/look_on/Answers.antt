-- `index::look_on` meets its contract: ids differ, so a number that has the id is that of the first row that has it, and so is what is looked up.
use mathlib.Core.Path.{sym, ◌∙◌}
use Rattle.rules.proofs.Wallets.{look_says}
use Rattle.index.proofs.Laws.{number_found, number_none, number_hit}
use Rattle.index.proofs.look_on.Goals as goal

pub returns-in-Some : goal.returns-in-Some
returns-in-Some c = number_hit _ _ _ _ _ _ c.requires c.in-Some.ensures

pub returns-in-Missing : goal.returns-in-Missing
returns-in-Missing c = number_none _ _ _ (look_says _ _ _ _ (sym c.in-Missing.is ∙ c.find_wallet.ensures))

pub returns-in-Live : goal.returns-in-Live
returns-in-Live c =
    let found = look_says _ _ _ _ (sym c.in-Live.is ∙ c.find_wallet.ensures) in
    number_found _ _ _ _ found.0 found.2

pub returns-in-Closed : goal.returns-in-Closed
returns-in-Closed c =
    let found = look_says _ _ _ _ (sym c.in-Closed.is ∙ c.find_wallet.ensures) in
    number_found _ _ _ _ found.0 found.2
