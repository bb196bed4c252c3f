-- `moves::ensure_wallet` meets its contract: the wallet is there, live or closed, or its row is added.
use mathlib.Core.Path.{sym, ◌∙◌}
use Rattle.rules.proofs.Wallets.{look_says}
use Rattle.moves.proofs.Wallets.{ensured_new, next_row}
use Rattle.moves.proofs.ensure_wallet.Goals as goal

pub returns-in-Missing : goal.returns-in-Missing
returns-in-Missing c =
    let missing = look_says _ _ _ _ (sym c.in-Missing.is ∙ c.find_wallet-found.ensures) in
    (c.append-made.ensures.0 ∙ next_row _ _ _ missing, λ K. ensured_new K _ _ _ _ _ missing c.append-made.ensures.1 c.append-made.ensures.2)
