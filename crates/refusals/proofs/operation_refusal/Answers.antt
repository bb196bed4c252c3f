-- `operation_refusal` meets its contract: each family gets what it requires from the ledger and the record, and answers for its operations.
use Rattle.rules.specs.Moments.{ledger_in}
use Rattle.rules.proofs.Decoded.{no_other}
use Rattle.refusals.proofs.Given.{op_low, op_high, op_not_8}
use Rattle.refusals.proofs.operation_refusal.Goals as goal

pub returns-in-Ok-Grant : goal.returns-in-Ok-Grant
returns-in-Ok-Grant c = c.grant_refusal.ensures (ledger_in c.args.ledger)

pub returns-in-Ok-Reply : goal.returns-in-Ok-Reply
returns-in-Ok-Reply c = c.reply_refusal.ensures (ledger_in c.args.ledger)

pub returns-in-Ok-Freeze : goal.returns-in-Ok-Freeze
returns-in-Ok-Freeze c = c.freeze_refusal.ensures (ledger_in c.args.ledger)

pub returns-in-Ok-Caps : goal.returns-in-Ok-Caps
returns-in-Ok-Caps c = c.caps_refusal.ensures (ledger_in c.args.ledger)

pub returns-in-Ok-Close : goal.returns-in-Ok-Close
returns-in-Ok-Close c = c.close_refusal.ensures (ledger_in c.args.ledger)

pub returns-in-Ok-Transfer : goal.returns-in-Ok-Transfer
returns-in-Ok-Transfer c = c.paying_refusal.ensures (ledger_in c.args.ledger)

pub returns-in-Ok-Release : goal.returns-in-Ok-Release
returns-in-Ok-Release c = c.closing_refusal.ensures (ledger_in c.args.ledger)

pub returns-in-Ok-Open : goal.returns-in-Ok-Open
returns-in-Ok-Open c = c.paying_refusal-in-Ok-Open.ensures (ledger_in c.args.ledger)

pub returns-in-Ok-Refund : goal.returns-in-Ok-Refund
returns-in-Ok-Refund c = c.closing_refusal-in-Ok-Refund.ensures (ledger_in c.args.ledger)

pub returns-in-Err : goal.returns-in-Err
returns-in-Err c = absurd (no_other c.in-Err.ensures.1 (op_low c.requires) (op_high c.requires) (op_not_8 c.requires))
