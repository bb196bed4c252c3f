-- `admin::freeze_refusal` meets its contract: each arm is told what was found of the target.
use mathlib.Core.Path.{ap, ◌∙◌}
use Rattle.rules.proofs.Numbers.{numbered_first}
use Rattle.refusals.proofs.Others.{freezing, freeze_by}
use Rattle.refusals.proofs.admin.freeze_refusal.Goals as goal

pub returns-in-Missing : goal.returns-in-Missing
returns-in-Missing c =
    let by = freezing c.args.header.now c.args.journal.now c.args.s in
    λ K. numbered_first _ c.first_of.ensures ∙ freeze_by K.edition _ _ K.escrows K.receipts _ _ _ c.requires.2 (ap by c.in-Missing.ensures)

pub returns-in-Live : goal.returns-in-Live
returns-in-Live c =
    let by = freezing c.args.header.now c.args.journal.now c.args.s in
    λ K. numbered_first _ c.first_of-in-Live.ensures ∙ freeze_by K.edition _ _ K.escrows K.receipts _ _ _ c.requires.2 (ap by c.in-Live.ensures)

pub returns-in-Closed : goal.returns-in-Closed
returns-in-Closed c =
    let by = freezing c.args.header.now c.args.journal.now c.args.s in
    λ K. freeze_by K.edition _ _ K.escrows K.receipts _ _ _ c.requires.2 (ap by c.in-Closed.ensures)
