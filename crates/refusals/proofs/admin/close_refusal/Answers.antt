-- `admin::close_refusal` meets its contract: each arm is told what was found of the target.
use mathlib.Core.Path.{ap, ◌∙◌}
use Prim.Native.Nat.{ℕ}
use Rattle.rules.specs.declared.WalletState.{WalletState}
use Rattle.rules.proofs.Numbers.{numbered_first}
use Rattle.refusals.proofs.Others.{closing, close_by}
use Rattle.refusals.proofs.admin.close_refusal.Goals as goal
use Rattle.refusals.proofs.admin.close_refusal.Goals.{After-find_wallet}

-- what an arm answers, by what was found
abbrev by : After-find_wallet → WalletState → ℕ
by c = let start = c.args in closing start.edition start.header.now start.wallets.now start.escrows.now start.journal.now start.s

pub returns-in-Missing : goal.returns-in-Missing
returns-in-Missing c =
    λ K. close_by _ _ _ _ K.receipts _ _ _ c.requires.4 (ap (by (goal.at.returns-in-Missing c).After-find_wallet) c.in-Missing.ensures)

pub returns-in-Live : goal.returns-in-Live
returns-in-Live c =
    λ K.
    numbered_first _ c.first_of.ensures
    ∙ close_by _ _ _ _ K.receipts _ _ _ c.requires.4
    (rw (c.wallet-locked.ensures, c.wallet-balance.ensures, c.open_to-expects.ensures) (ap (by (goal.at.returns-in-Live c).After-find_wallet) c.in-Live.ensures))

pub returns-in-Closed : goal.returns-in-Closed
returns-in-Closed c =
    λ K. close_by _ _ _ _ K.receipts _ _ _ c.requires.4 (ap (by (goal.at.returns-in-Closed c).After-find_wallet) c.in-Closed.ensures)
