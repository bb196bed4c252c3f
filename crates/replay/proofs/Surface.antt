-- THE DEMANDS OF THE CODE WITH REPLAYS. A call of `ledger`, `record` or `rules` as that surface shows it, or a replay, by its own contract; and so the
-- demands of every call and of every run, and that what a run recorded agrees. What was found is shown in numbers, as the host is told it.
use mathlib.Core.Path.{refl, ap}
use Rattle.rules.specs.Ledger.{first_edition}
use Rattle.rules.specs.Replay.{verdict_of, told}
use Rattle.rules.specs.Results.{Ran, exits, Result, by_replay, Meets}
use Rattle.rules.specs.Runs.{Surface, CallsAreListed, CallsDecide, RunsAddUp, RunsRefuseRetries, RetriesChangeNothing, RunsRecordingsAgree}
use Rattle.rules.proofs.Runs.{calls_are_listed, calls_decide, runs_add_up, runs_refuse_retries, retries_change_nothing}
use Rattle.rules.proofs.Recorded.{runs_recordings_agree}
use Rattle.ledger.proofs.Surface as of_ledger
use Rattle.replay.proofs.replay.Kinds as replay_kinds
use Rattle.replay.proofs.replay.Reads as replay_reads

pub data Did : Type 0 where
  did_ledger : of_ledger.Did → Did
  did_replay : Ran replay_kinds.ps replay_kinds.r replay_reads.Learnt → Did

abbrev pub shows : Did → Result
shows (did_ledger d) = of_ledger.shows d
shows (did_replay x) =
    by_replay (of_ledger.five x.args) (of_ledger.five (exits x)) x.args.1.1.1.1.1.0.now (verdict_of x.answer)

pub meets : (d : Did) → Meets first_edition (shows d)
meets (did_ledger d) = of_ledger.meets d
meets (did_replay x) = (refl, ap told x.meets)

abbrev pub surface : Surface
surface = record { Did = Did; edition = first_edition; sized = (of_ledger.surface).sized; shows = shows; meets = meets }

pub demand_1 : CallsAreListed surface
demand_1 = calls_are_listed surface

pub demand_2 : CallsDecide surface
demand_2 = calls_decide surface

pub demand_3 : RunsAddUp surface
demand_3 = runs_add_up surface

pub the_retry : RunsRefuseRetries surface
the_retry = runs_refuse_retries surface

pub the_retry_changes_nothing : RetriesChangeNothing surface
the_retry_changes_nothing = retries_change_nothing surface

pub recordings_agree : RunsRecordingsAgree surface
recordings_agree = runs_recordings_agree surface
