-- Any two answers that the public contract of `report` permits are equal, and so are the words left: the contract is an equation, so both are what the
-- definition gives. What is told has two words, and both are in it.
use Rattle.rules.specs.Report.{Reported, report_of, telling}
use Rattle.rules.specs.Results.{Sole}
use Rattle.rules.proofs.Sole.{one}
use Rattle.ledger.proofs.Surface.{five}
use Rattle.report.proofs.report.Kinds as report_kinds
use Rattle.report.proofs.report.Reads as report_reads

-- what is told, the report and the five tables as they are left
pub sole_report :
    Sole report_kinds.ps report_kinds.r report_reads.Learnt Reported
    (λ κs x e. telling x.1.number x.1.entries (report_of x.0 e.1.1.1.1.1.1.1.0.now e.1.1.1.1.1.1.1.1.0.now) (five e))
sole_report κs a x y v w p q = one p q
