-- `operations::reply` meets its contract: what `dispute` or `accept` says.
use mathlib.Core.List.{[]}
use Rattle.rules.specs.Ledger.{ledger_of}
use Rattle.operations.proofs.Replies.{disputed, accepted}
use Rattle.operations.proofs.reply.Goals as goal

pub returns-then-s-eq0 : goal.returns-then-s-eq0
returns-then-s-eq0 c = λ K. disputed _ _ _ c.if-s-eq0.true (c.dispute.ensures (ledger_of _ _ _ _ [] _))

pub returns : goal.returns
returns c = λ K. accepted _ _ _ c.if-s-eq0.false (c.accept.ensures K)
