-- THE DEMANDS OF THE CODE WITH REPORTS. A call of `ledger`, `record`, `rules` or `replay` as that surface shows it, or a report, by its own contract; and
-- so the demands of every call and of every run, and that what a run recorded agrees.
use mathlib.Core.Path.{refl}
use Rattle.rules.specs.Ledger.{first_edition}
use Rattle.rules.specs.Report.{report_of}
use Rattle.rules.specs.Results.{Ran, exits, Result, by_report, Meets}
use Rattle.rules.specs.Runs.{Surface, CallsAreListed, CallsDecide, RunsAddUp, RunsRefuseRetries, RetriesChangeNothing, RunsRecordingsAgree}
use Rattle.rules.proofs.Runs.{calls_are_listed, calls_decide, runs_add_up, runs_refuse_retries, retries_change_nothing}
use Rattle.rules.proofs.Recorded.{runs_recordings_agree}
use Rattle.ledger.proofs.Surface.{five}
use Rattle.replay.proofs.Surface as of_replay
use Rattle.report.proofs.report.Kinds as report_kinds
use Rattle.report.proofs.report.Reads as report_reads

pub data Did : Type 0 where
  did_replay : of_replay.Did → Did
  did_report : Ran report_kinds.ps report_kinds.r report_reads.Learnt → Did

-- of a report: the tables, the recording, the report so far, and what it then is and told
abbrev pub shows : Did → Result
shows (did_replay d) = of_replay.shows d
shows (did_report x) =
    let lent = x.args.1.1.1.1.1 in
    let left = (exits x).1.1.1.1.1 in
    by_report (five x.args) (five (exits x)) lent.0.now
    (report_of lent.1.0 lent.1.1.0.now lent.1.1.1.0.now)
    (report_of x.answer.0 left.1.1.0.now left.1.1.1.0.now) x.answer.1.number x.answer.1.entries

pub meets : (d : Did) → Meets first_edition (shows d)
meets (did_replay d) = of_replay.meets d
meets (did_report x) = (refl, x.meets)

abbrev pub surface : Surface
surface = record { Did = Did; edition = first_edition; sized = (of_replay.surface).sized; shows = shows; meets = meets }

pub demand_1 : CallsAreListed surface
demand_1 = calls_are_listed surface

pub demand_2 : CallsDecide surface
demand_2 = calls_decide surface

pub demand_3 : RunsAddUp surface
demand_3 = runs_add_up surface

pub the_retry : RunsRefuseRetries surface
the_retry = runs_refuse_retries surface

pub the_retry_changes_nothing : RetriesChangeNothing surface
the_retry_changes_nothing = retries_change_nothing surface

pub recordings_agree : RunsRecordingsAgree surface
recordings_agree = runs_recordings_agree surface
