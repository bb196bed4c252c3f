-- `holds::link_refusal` meets its contract.
use mathlib.Core.Path.{sym, ◌∙◌}
use Rattle.rules.proofs.Numbers.{numbered_first}
use Rattle.holds.proofs.Claim.{link_absent, link_by}
use Rattle.holds.proofs.link_refusal.Goals as goal

pub returns-then-not-written : goal.returns-then-not-written
returns-then-not-written c = λ K. link_absent _ _ (sym c.written.ensures.is ∙ c.if-not-written.true)

pub returns : goal.returns
returns c =
    λ K. numbered_first _ c.first_of.ensures
    ∙ link_by _ _ K.wallets _ K.receipts K.journal _ _ _ _ _
    (sym c.written.ensures.is ∙ c.if-not-written.false)
    c.escrow-from.ensures
    c.escrow-to.ensures
    c.escrow-deadline.ensures
    c.escrow-state.ensures
