-- `settling::operate` meets its contract: each arm by its own contract, what that needs out of soundness and the refusals.
use mathlib.Core.Path.{ap, ◌∙◌}
use mathlib.Core.List.{[]}
use Rattle.rules.specs.Ledger.{ledger_of, set_receipts}
use Rattle.rules.specs.Operations.{code_of}
use Rattle.rules.specs.Settle.{release, refund, sweep}
use Rattle.rules.proofs.Decoded.{no_other}
use Rattle.rules.specs.Refusals.{one_of, closing}
use Rattle.rules.specs.Limits.{GRANT, TRANSFER, OPEN, RELEASE, REFUND, CLAIM, REPLY, SWEEP, FREEZE, CAPS, CLOSE}
use Rattle.settling.proofs.Facts.{formed, granting, transferring, opening, ending, claiming, answering, swept, freezing, capping, shutting}
use Rattle.settling.proofs.Settled.{operated}
use Rattle.settling.proofs.operate.Goals as goal

pub grant-requires : goal.grant-requires
grant-requires c =
    granting _ _ _ _ _ _ _ c.requires.settles (c.in-Ok-Grant.ensures ∙ ap code_of c.in-Ok-Grant.field-0-is)

pub transfer-requires : goal.transfer-requires
transfer-requires c =
    transferring _ _ _ _ _ _ _ c.requires.settles (c.in-Ok-Transfer.ensures ∙ ap code_of c.in-Ok-Transfer.field-0-is)

pub open_escrow-requires : goal.open_escrow-requires
open_escrow-requires c =
    opening _ _ _ _ _ _ _ c.requires.settles (c.in-Ok-Open.ensures ∙ ap code_of c.in-Ok-Open.field-0-is)

pub close_escrow-requires : goal.close_escrow-requires
close_escrow-requires c =
    ending _ _ _ _ _ _ _ c.requires.settles (ap (one_of closing) (c.in-Ok-Release.ensures ∙ ap code_of c.in-Ok-Release.field-0-is))

pub close_escrow-requires-in-Ok-Refund : goal.close_escrow-requires-in-Ok-Refund
close_escrow-requires-in-Ok-Refund c =
    ending _ _ _ _ _ _ _ c.requires.settles (ap (one_of closing) (c.in-Ok-Refund.ensures ∙ ap code_of c.in-Ok-Refund.field-0-is))

pub claim-requires : goal.claim-requires
claim-requires c = claiming _ _ _ _ _ _ _ c.requires.settles

pub reply-requires : goal.reply-requires
reply-requires c =
    answering _ _ _ _ _ _ _ c.requires.settles (c.in-Ok-Reply.ensures ∙ ap code_of c.in-Ok-Reply.field-0-is)

pub sweep-requires : goal.sweep-requires
sweep-requires c = swept _ _ _ _ _ _ _ c.requires.settles

pub freeze-requires : goal.freeze-requires
freeze-requires c =
    freezing _ _ _ _ _ _ _ c.requires.settles (c.in-Ok-Freeze.ensures ∙ ap code_of c.in-Ok-Freeze.field-0-is)

pub caps-requires : goal.caps-requires
caps-requires c =
    capping _ _ _ _ _ _ _ c.requires.settles (c.in-Ok-Caps.ensures ∙ ap code_of c.in-Ok-Caps.field-0-is)

pub close-requires : goal.close-requires
close-requires c =
    shutting _ _ _ _ _ _ _ c.requires.settles (c.in-Ok-Close.ensures ∙ ap code_of c.in-Ok-Close.field-0-is)

pub returns-in-Ok-Grant : goal.returns-in-Ok-Grant
returns-in-Ok-Grant c = λ K. operated GRANT _ _ _ (c.in-Ok-Grant.ensures ∙ ap code_of c.in-Ok-Grant.field-0-is) (c.grant.ensures (ledger_of _ [] [] _ _ _))

pub returns-in-Ok-Transfer : goal.returns-in-Ok-Transfer
returns-in-Ok-Transfer c = λ K. operated TRANSFER _ _ _ (c.in-Ok-Transfer.ensures ∙ ap code_of c.in-Ok-Transfer.field-0-is) (c.transfer.ensures (ledger_of _ [] [] _ _ _))

pub returns-in-Ok-Open : goal.returns-in-Ok-Open
returns-in-Ok-Open c = λ K. operated OPEN _ _ _ (c.in-Ok-Open.ensures ∙ ap code_of c.in-Ok-Open.field-0-is) (c.open_escrow.ensures (set_receipts _ K))

pub returns-in-Ok-Release : goal.returns-in-Ok-Release
unfolding release
returns-in-Ok-Release c = λ K. operated RELEASE _ _ _ (c.in-Ok-Release.ensures ∙ ap code_of c.in-Ok-Release.field-0-is) (c.close_escrow.ensures (set_receipts _ K))

pub returns-in-Ok-Refund : goal.returns-in-Ok-Refund
unfolding refund
returns-in-Ok-Refund c = λ K. operated REFUND _ _ _ (c.in-Ok-Refund.ensures ∙ ap code_of c.in-Ok-Refund.field-0-is) (c.close_escrow-in-Ok-Refund.ensures (set_receipts _ K))

pub returns-in-Ok-Claim : goal.returns-in-Ok-Claim
returns-in-Ok-Claim c = λ K. operated CLAIM _ _ _ (c.in-Ok-Claim.ensures ∙ ap code_of c.in-Ok-Claim.field-0-is) (c.claim.ensures (ledger_of _ [] _ _ [] _))

pub returns-in-Ok-Reply : goal.returns-in-Ok-Reply
returns-in-Ok-Reply c = λ K. operated REPLY _ _ _ (c.in-Ok-Reply.ensures ∙ ap code_of c.in-Ok-Reply.field-0-is) (c.reply.ensures K)

pub returns-in-Ok-Sweep : goal.returns-in-Ok-Sweep
unfolding sweep
returns-in-Ok-Sweep c = λ K. operated SWEEP _ _ _ (c.in-Ok-Sweep.ensures ∙ ap code_of c.in-Ok-Sweep.field-0-is) (c.sweep.ensures K).0

pub returns-in-Ok-Freeze : goal.returns-in-Ok-Freeze
returns-in-Ok-Freeze c = λ K. operated FREEZE _ _ _ (c.in-Ok-Freeze.ensures ∙ ap code_of c.in-Ok-Freeze.field-0-is) (c.freeze.ensures (ledger_of _ [] [] _ _ _))

pub returns-in-Ok-Caps : goal.returns-in-Ok-Caps
returns-in-Ok-Caps c = λ K. operated CAPS _ _ _ (c.in-Ok-Caps.ensures ∙ ap code_of c.in-Ok-Caps.field-0-is) (c.caps.ensures (ledger_of _ [] [] _ _ _))

pub returns-in-Ok-Close : goal.returns-in-Ok-Close
returns-in-Ok-Close c = λ K. operated CLOSE _ _ _ (c.in-Ok-Close.ensures ∙ ap code_of c.in-Ok-Close.field-0-is) (c.close.ensures (ledger_of _ [] [] _ _ _))

pub returns-in-Err : goal.returns-in-Err
returns-in-Err c =
    let f = formed _ _ _ _ _ _ _ c.requires.settles in
    absurd (no_other c.in-Err.ensures.1 f.low f.high f.not_8)
