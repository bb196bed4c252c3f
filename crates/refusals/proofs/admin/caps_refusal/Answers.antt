-- `admin::caps_refusal` meets its contract: each arm is told what was found of the target.
use mathlib.Core.Path.{refl, ap, ◌∙◌}
use Rattle.rules.proofs.Numbers.{numbered_first, refused, passed}
use Rattle.refusals.proofs.Others.{capping, caps_by}
use Rattle.refusals.proofs.admin.caps_refusal.Goals as goal

pub returns-in_err-first_of : goal.returns-in_err-first_of
returns-in_err-first_of c =
    λ K.
    refused _ _ _ c.first_of.ensures c.in_err-first_of.was c.from_residual.ensures
    ∙ caps_by K.edition _ _ K.escrows K.receipts _ _ _ c.requires.2 refl

pub returns-in-Missing : goal.returns-in-Missing
returns-in-Missing c =
    let by = capping c.args.header.now c.args.journal.now in
    λ K.
    passed _ _ c.first_of.ensures c.in_ok-first_of.was
    ∙ caps_by K.edition _ _ K.escrows K.receipts _ _ _ c.requires.2 (ap by c.in-Missing.ensures)

pub returns-in-Live : goal.returns-in-Live
returns-in-Live c =
    let by = capping c.args.header.now c.args.journal.now in
    λ K.
    numbered_first _ c.first_of-in-Live.ensures
    ∙ passed _ _ c.first_of.ensures c.in_ok-first_of.was
    ∙ caps_by K.edition _ _ K.escrows K.receipts _ _ _ c.requires.2 (ap by c.in-Live.ensures)

pub returns-in-Closed : goal.returns-in-Closed
returns-in-Closed c =
    let by = capping c.args.header.now c.args.journal.now in
    λ K.
    passed _ _ c.first_of.ensures c.in_ok-first_of.was
    ∙ caps_by K.edition _ _ K.escrows K.receipts _ _ _ c.requires.2 (ap by c.in-Closed.ensures)
