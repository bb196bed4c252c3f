-- `payments::grant_refusal` meets its contract: a closed recipient is refused, and the checks behind it are told whether it needs a row.
use mathlib.Core.Path.{refl, ◌∙◌}
use Rattle.rules.proofs.Numbers.{numbered_first, refused, passed}
use Rattle.payments.proofs.Recipient.{recipient_refused, recipient_passed}
use Rattle.payments.proofs.Grant.{granting, grant_by}
use Rattle.payments.proofs.grant_refusal.Goals as goal

pub returns-in_err-first_of : goal.returns-in_err-first_of
returns-in_err-first_of c =
    λ K. refused _ _ _ c.first_of.ensures c.in_err-first_of.was c.from_residual.ensures ∙ grant_by K.edition _ _ K.escrows K.receipts _ _ _ c.requires.2 refl

pub returns-in_err-needs_row : goal.returns-in_err-needs_row
returns-in_err-needs_row c =
    let checks = granting c.args.header.now c.args.wallets.now c.args.journal.now c.args.s in
    λ K.
    passed _ _ c.first_of.ensures c.in_ok-first_of.was
    ∙ grant_by K.edition _ _ K.escrows K.receipts _ _ _ c.requires.2
    (recipient_refused _ checks _ c.needs_row.ensures c.in_err-needs_row.was c.from_residual-in_err-needs_row.ensures)

pub returns : goal.returns
returns c =
    let checks = granting c.args.header.now c.args.wallets.now c.args.journal.now c.args.s in
    λ K.
    numbered_first _ c.first_of-2.ensures
    ∙ passed _ _ c.first_of.ensures c.in_ok-first_of.was
    ∙ grant_by K.edition _ _ K.escrows K.receipts _ _ _ c.requires.2
    (rw c.exceeds-grant_limit.ensures (recipient_passed checks _ c.needs_row.ensures c.in_ok-needs_row.was))
