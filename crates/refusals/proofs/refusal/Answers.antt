-- `refusal` meets its contract: the envelope's refusal, or if there is none the operation's.
use mathlib.Core.Path.{◌∙◌}
use Rattle.rules.specs.Moments.{ledger_in}
use Rattle.rules.specs.Refusals.{envelope_refusals, operation_refusals}
use Rattle.rules.proofs.Numbers.{refused_by, passed_by}
use Rattle.refusals.proofs.Order.{envelope_numbered}
use Rattle.refusals.proofs.refusal.Goals as goal

pub returns-in_err-envelope_refusal : goal.returns-in_err-envelope_refusal
returns-in_err-envelope_refusal c =
    let L = ledger_in c.args.ledger in
    refused_by _ (envelope_refusals L c.args.s) (operation_refusals L c.args.s) (c.envelope_refusal.ensures L) c.in_err-envelope_refusal.was
    c.from_residual.ensures

pub returns : goal.returns
returns c =
    let L = ledger_in c.args.ledger in
    c.operation_refusal.ensures
    ∙ passed_by (envelope_refusals L c.args.s) (operation_refusals L c.args.s) (envelope_numbered _ _) (c.envelope_refusal.ensures L)
    c.in_ok-envelope_refusal.was
