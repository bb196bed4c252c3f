-- `report::report_on` meets its contract. The invariant: k entries were read, what is left to read gives the whole, nothing is named yet, and the tables
-- are ready for the next entry.
use Rattle.rules.specs.Ledger.{ledger_of}
use Rattle.rules.specs.Promises.{SameLengths}
use Rattle.rules.specs.Report.{report_of}
use Rattle.report.proofs.Laws.{Reporting}
use Rattle.report.proofs.report_on.Given as goal

abbrev pub invariant-loop-k : goal.invariant-loop-k
invariant-loop-k l =
    let first = ledger_of l.edition l.initial.header l.initial.wallets l.initial.escrows l.initial.receipts l.initial.journal in
    let L = ledger_of l.edition l.header l.wallets l.escrows l.receipts l.journal in
    SameLengths L first × Reporting l.recording (report_of l.initial.counts l.initial.figures l.initial.named) first l.k L (report_of l.counts l.figures l.named)
