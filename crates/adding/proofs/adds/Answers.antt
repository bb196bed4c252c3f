-- `adding::adds` meets its contract: each arm by the law of its operation.
use native.Mathlib.Omega.{arith}
use mathlib.Core.Path.{ap, ◌∙◌}
use Rattle.rules.specs.Operations.{code_of}
use Rattle.rules.specs.Limits.{OPEN, CLAIM, FREEZE, CAPS, CLOSE}
use Rattle.rules.specs.Refusals.{one_of, closing}
use Rattle.rules.specs.declared.operation.Operation.TheVariants.{Grant, Transfer, Release, Refund, Reply, Sweep}
use Rattle.settling.proofs.Facts.{good}
use borrow.Author.Tests.{eq-eqb, ne_eqb}
use Rattle.adding.proofs.Figures.{can_look, can_accept, can_sweep, granted, transferred, released, refunded, disputed, accepted, sweeps, nothing, no_figure}
use Rattle.adding.proofs.adds.Goals as goal

pub escrow-amount-requires : goal.escrow-amount-requires
escrow-amount-requires c = can_look _ _ _ _ _ _ _ c.requires.settles (ap (one_of closing) (c.in-Ok-Release.ensures ∙ ap code_of c.in-Ok-Release.field-0-is))

pub escrow-amount-requires-in-Ok-Refund : goal.escrow-amount-requires-in-Ok-Refund
escrow-amount-requires-in-Ok-Refund c = can_look _ _ _ _ _ _ _ c.requires.settles (ap (one_of closing) (c.in-Ok-Refund.ensures ∙ ap code_of c.in-Ok-Refund.field-0-is))

pub returns-then-s-eq0 : goal.returns-then-s-eq0
returns-then-s-eq0 c = λ K p. disputed _ _ _ _ _ _ _ p (c.in-Ok-Reply.ensures ∙ ap code_of c.in-Ok-Reply.field-0-is) (eq-eqb _ 0 c.if-s-eq0.true)

pub accepted-amount-requires : goal.accepted-amount-requires
accepted-amount-requires c = can_accept _ _ _ _ _ _ _ c.requires.settles (c.in-Ok-Reply.ensures ∙ ap code_of c.in-Ok-Reply.field-0-is)

pub sweep_adds-requires : goal.sweep_adds-requires
sweep_adds-requires c = can_sweep _ _ _ _ _ _ _ c.requires.settles

pub returns-in-Ok-Grant : goal.returns-in-Ok-Grant
returns-in-Ok-Grant c = λ K p. granted _ _ _ _ _ _ _ p (c.in-Ok-Grant.ensures ∙ ap code_of c.in-Ok-Grant.field-0-is)

pub returns-in-Ok-Transfer : goal.returns-in-Ok-Transfer
returns-in-Ok-Transfer c = λ K p. transferred _ _ _ _ _ _ _ p (c.in-Ok-Transfer.ensures ∙ ap code_of c.in-Ok-Transfer.field-0-is)

pub returns-in-Ok-Release : goal.returns-in-Ok-Release
returns-in-Ok-Release c = λ K p. released _ _ _ _ _ _ _ p _ (c.in-Ok-Release.ensures ∙ ap code_of c.in-Ok-Release.field-0-is) c.escrow-amount.ensures

pub returns-in-Ok-Refund : goal.returns-in-Ok-Refund
returns-in-Ok-Refund c = λ K p. refunded _ _ _ _ _ _ _ p _ (c.in-Ok-Refund.ensures ∙ ap code_of c.in-Ok-Refund.field-0-is) c.escrow-amount-in-Ok-Refund.ensures

pub returns-else-s-eq0 : goal.returns-else-s-eq0
returns-else-s-eq0 c = λ K p. accepted _ _ _ _ _ _ _ p _ (c.in-Ok-Reply.ensures ∙ ap code_of c.in-Ok-Reply.field-0-is) (ne_eqb _ 0 c.if-s-eq0.false) c.accepted-amount.ensures

pub returns-in-Ok-Sweep : goal.returns-in-Ok-Sweep
returns-in-Ok-Sweep c = λ K p. sweeps _ _ _ _ _ _ _ p _ (c.in-Ok-Sweep.ensures ∙ ap code_of c.in-Ok-Sweep.field-0-is) (c.sweep_adds.ensures K (good _ _ _ _ _ _ _ p))

pub returns-in-Ok-Open : goal.returns-in-Ok-Open
returns-in-Ok-Open c = λ K p. no_figure _ _ _ _ _ _ _ p OPEN (c.in-Ok-Open.ensures ∙ ap code_of c.in-Ok-Open.field-0-is) tt

pub returns-in-Ok-Claim : goal.returns-in-Ok-Claim
returns-in-Ok-Claim c = λ K p. no_figure _ _ _ _ _ _ _ p CLAIM (c.in-Ok-Claim.ensures ∙ ap code_of c.in-Ok-Claim.field-0-is) tt

pub returns-in-Ok-Freeze : goal.returns-in-Ok-Freeze
returns-in-Ok-Freeze c = λ K p. no_figure _ _ _ _ _ _ _ p FREEZE (c.in-Ok-Freeze.ensures ∙ ap code_of c.in-Ok-Freeze.field-0-is) tt

pub returns-in-Ok-Caps : goal.returns-in-Ok-Caps
returns-in-Ok-Caps c = λ K p. no_figure _ _ _ _ _ _ _ p CAPS (c.in-Ok-Caps.ensures ∙ ap code_of c.in-Ok-Caps.field-0-is) tt

pub returns-in-Ok-Close : goal.returns-in-Ok-Close
returns-in-Ok-Close c = λ K p. no_figure _ _ _ _ _ _ _ p CLOSE (c.in-Ok-Close.ensures ∙ ap code_of c.in-Ok-Close.field-0-is) tt

pub returns-in-Err : goal.returns-in-Err
returns-in-Err c =
    let n = c.in-Err.ensures.1 in
    λ K p. nothing _ _ _ _ _ _ _ p (n Grant) (n Transfer) (n Release) (n Refund) (n Reply) (n Sweep)
