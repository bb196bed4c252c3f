-- `holds::reply_refusal` meets its contract.
use mathlib.Core.Path.{sym, ◌∙◌}
use mathlib.Core.Bool.{true}
use Rattle.rules.proofs.Numbers.{numbered_first}
use Rattle.holds.proofs.Reply.{reply_absent, reply_by}
use Rattle.holds.proofs.reply_refusal.Goals as goal

pub returns-then-not-written : goal.returns-then-not-written
returns-then-not-written c = λ K. reply_absent _ _ c.requires.2 (sym c.written.ensures.is ∙ c.if-not-written.true)

pub returns : goal.returns
returns c =
    λ K. numbered_first _ c.first_of.ensures
    ∙ reply_by K.edition _ K.wallets K.escrows _ _ _ true _ _ _
    c.requires.2 (sym c.written.ensures.is ∙ c.if-not-written.false)
    (λ _. c.receipt-requester.ensures)
    (λ _. c.receipt-deadline.ensures)
    (λ _. c.receipt-state.ensures)
