-- `replay::replay_on` meets its contract. The invariant: k entries agree, what is left to replay gives the whole, and the tables are ready for the
-- next entry, so that it may be submitted without a test.
use Rattle.rules.specs.Ledger.{ledger_of}
use Rattle.rules.specs.Promises.{SameLengths}
use Rattle.replay.proofs.Entries.{Replaying}
use Rattle.replay.proofs.replay_on.Given as goal

abbrev pub invariant-loop-k : goal.invariant-loop-k
invariant-loop-k l =
    let first = ledger_of l.edition l.initial.header l.initial.wallets l.initial.escrows l.initial.receipts l.initial.journal in
    let L = ledger_of l.edition l.header l.wallets l.escrows l.receipts l.journal in
    SameLengths L first × Replaying l.recording first l.k L
