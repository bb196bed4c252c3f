-- `payments::paying_refusal` meets its contract: each arm is told what was found of the sender.
use mathlib.Core.Path.{refl, ap, ◌∙◌}
use mathlib.Core.Bool.{◌||◌}
use Prim.Native.Nat.{ℕ}
use lib.Dec.{eqb}
use Rattle.rules.specs.Ledger.{Ledger, ledger_of}
use Rattle.rules.specs.Refusals.{first}
use Rattle.rules.specs.declared.WalletState.{WalletState}
use Rattle.rules.proofs.Numbers.{numbered_first, refused, passed}
use Rattle.payments.specs.Sending.{sending_refusals}
use Rattle.payments.proofs.Paying.{by_sender, paying_by}
use Rattle.payments.proofs.paying_refusal.Goals as goal
use Rattle.payments.proofs.paying_refusal.Goals.{After-find_wallet, In-Live}

-- what is left to check of a live sender
abbrev rest : (c : After-find_wallet) → Ledger → ℕ
rest c K =
    let start = c.args in
    first (sending_refusals (ledger_of start.edition start.header.now start.wallets.now start.escrows.now K.receipts start.journal.now) start.s)

-- what an arm answers, by what was found
abbrev by : (c : After-find_wallet) → Ledger → WalletState → ℕ
by c K = by_sender c.args.wallets.now (eqb c.args.s.target 0 || eqb c.args.s.target c.args.s.signer) (rest c K)

pub returns-in_err-first_of : goal.returns-in_err-first_of
returns-in_err-first_of c =
    λ K. refused _ _ _ c.first_of.ensures c.in_err-first_of.was c.from_residual.ensures ∙ paying_by _ _ _ _ K.receipts _ _ _ c.requires.5 refl

pub returns-in-Missing : goal.returns-in-Missing
returns-in-Missing c =
    λ K. passed _ _ c.first_of.ensures c.in_ok-first_of.was
    ∙ paying_by _ _ _ _ K.receipts _ _ _ c.requires.5 (ap (by (goal.at.returns-in-Missing c).After-find_wallet K) c.in-Missing.ensures)

pub returns-in_err-first_of-in-Live : goal.returns-in_err-first_of-in-Live
returns-in_err-first_of-in-Live c =
    let at = (goal.at.returns-in_err-first_of-in-Live c).After-find_wallet in
    λ K.
    refused _ _ (rest at K) c.first_of-in-Live.ensures c.in_err-first_of-in-Live.was c.from_residual-in_err-first_of-in-Live.ensures
    ∙ passed _ _ c.first_of.ensures c.in_ok-first_of.was
    ∙ paying_by _ _ _ _ K.receipts _ _ _ c.requires.5 (rw c.wallet-sender_frozen.ensures (ap (by at K) c.in-Live.ensures))

pub returns-in_ok-first_of-in-Live : goal.returns-in_ok-first_of-in-Live
returns-in_ok-first_of-in-Live c =
    let at = (goal.at.returns-in_ok-first_of-in-Live c).After-find_wallet in
    λ K.
    c.sending_refusal.ensures K
    ∙ passed _ (rest at K) c.first_of-in-Live.ensures c.in_ok-first_of-in-Live.was
    ∙ passed _ _ c.first_of.ensures c.in_ok-first_of.was
    ∙ paying_by _ _ _ _ K.receipts _ _ _ c.requires.5 (rw c.wallet-sender_frozen.ensures (ap (by at K) c.in-Live.ensures))

pub returns-in-Closed : goal.returns-in-Closed
returns-in-Closed c =
    λ K. numbered_first _ c.first_of-in-Closed.ensures
    ∙ passed _ _ c.first_of.ensures c.in_ok-first_of.was
    ∙ paying_by _ _ _ _ K.receipts _ _ _ c.requires.5 (ap (by (goal.at.returns-in-Closed c).After-find_wallet K) c.in-Closed.ensures)
