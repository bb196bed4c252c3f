-- `holds::closing_refusal` meets its contract.
use mathlib.Core.Path.{sym, ◌∙◌}
use mathlib.Core.Bool.{true}
use Rattle.rules.proofs.Numbers.{numbered_first}
use Rattle.holds.proofs.Closing.{closing_absent, closing_by}
use Rattle.holds.proofs.closing_refusal.Goals as goal

pub returns-then-not-written : goal.returns-then-not-written
returns-then-not-written c = λ K. closing_absent _ _ c.requires.2 (sym c.written.ensures.is ∙ c.if-not-written.true)

pub returns : goal.returns
returns c =
    λ K. numbered_first _ c.first_of.ensures
    ∙ closing_by _ _ K.wallets _ K.receipts _ _ true _ _ _
    c.requires.2 (sym c.written.ensures.is ∙ c.if-not-written.false)
    (λ _. c.escrow-from.ensures)
    (λ _. c.escrow-deadline.ensures)
    (λ _. c.escrow-state.ensures)
