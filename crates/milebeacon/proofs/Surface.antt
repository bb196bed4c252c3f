-- THE DEMANDS OF THE ENTRY POINTS. What a call of an entry point did, by that call's own contract; what it showed; and so the three demands of
-- every call and of every run that a host makes.
use mathlib.Core.Path.{refl}
use lib.Dec.{lit<, lit≤}
use Rattle.rules.specs.Ledger.{first_edition}
use Rattle.rules.specs.Report.{report_of}
use Rattle.rules.specs.Results.{Ran, exits, Result, by_fresh, by_submit, by_replay, by_report, by_lookup, wallet_standing, place_of_escrow, place_of_receipt, by_read, by_write, by_status, by_convert, Meets}
use Rattle.rules.specs.Runs.{Surface, CallsAreListed, CallsDecide, RunsAddUp, RunsRefuseRetries, RetriesChangeNothing, RunsRecordingsAgree, ConversionsReplay}
use Rattle.rules.proofs.Runs.{calls_are_listed, calls_decide, runs_add_up, runs_refuse_retries, retries_change_nothing}
use Rattle.rules.proofs.Recorded.{runs_recordings_agree}
use Rattle.convert.proofs.Calls.{conversions_replay}
use Rattle.ledger.proofs.Surface.{five, two}
use Rattle.milebeacon.proofs.milebeacon_fresh.Kinds as fresh_kinds
use Rattle.milebeacon.proofs.milebeacon_fresh.Reads as fresh_reads
use Rattle.milebeacon.proofs.milebeacon_submit.Kinds as submit_kinds
use Rattle.milebeacon.proofs.milebeacon_submit.Reads as submit_reads
use Rattle.milebeacon.proofs.milebeacon_replay.Kinds as replay_kinds
use Rattle.milebeacon.proofs.milebeacon_replay.Reads as replay_reads
use Rattle.milebeacon.proofs.milebeacon_report.Kinds as report_kinds
use Rattle.milebeacon.proofs.milebeacon_report.Reads as report_reads
use Rattle.milebeacon.proofs.milebeacon_read.Kinds as read_kinds
use Rattle.milebeacon.proofs.milebeacon_read.Reads as read_reads
use Rattle.milebeacon.proofs.milebeacon_write.Kinds as write_kinds
use Rattle.milebeacon.proofs.milebeacon_write.Reads as write_reads
use Rattle.milebeacon.proofs.milebeacon_status.Kinds as status_kinds
use Rattle.milebeacon.proofs.milebeacon_status.Reads as status_reads
use Rattle.milebeacon.proofs.milebeacon_convert.Kinds as convert_kinds
use Rattle.milebeacon.proofs.milebeacon_convert.Reads as convert_reads
use Rattle.milebeacon.proofs.milebeacon_wallet_row.Kinds as wallet_kinds
use Rattle.milebeacon.proofs.milebeacon_wallet_row.Reads as wallet_reads
use Rattle.milebeacon.proofs.milebeacon_escrow_place.Kinds as escrow_place_kinds
use Rattle.milebeacon.proofs.milebeacon_escrow_place.Reads as escrow_place_reads
use Rattle.milebeacon.proofs.milebeacon_receipt_place.Kinds as receipt_place_kinds
use Rattle.milebeacon.proofs.milebeacon_receipt_place.Reads as receipt_place_reads

-- one call of each entry point
pub data Did : Type 0 where
  did_fresh : Ran fresh_kinds.ps fresh_kinds.r fresh_reads.Learnt → Did
  did_submit : Ran submit_kinds.ps submit_kinds.r submit_reads.Learnt → Did
  did_replay : Ran replay_kinds.ps replay_kinds.r replay_reads.Learnt → Did
  did_report : Ran report_kinds.ps report_kinds.r report_reads.Learnt → Did
  did_read : Ran read_kinds.ps read_kinds.r read_reads.Learnt → Did
  did_write : Ran write_kinds.ps write_kinds.r write_reads.Learnt → Did
  did_status : Ran status_kinds.ps status_kinds.r status_reads.Learnt → Did
  did_convert : Ran convert_kinds.ps convert_kinds.r convert_reads.Learnt → Did
  did_wallet : Ran wallet_kinds.ps wallet_kinds.r wallet_reads.Learnt → Did
  did_escrow_place : Ran escrow_place_kinds.ps escrow_place_kinds.r escrow_place_reads.Learnt → Did
  did_receipt_place : Ran receipt_place_kinds.ps receipt_place_kinds.r receipt_place_reads.Learnt → Did

-- what it was lent, left, asked and answered: its parameters at entry and at exit, in the order of the source
abbrev pub shows : Did → Result
shows (did_fresh x) = by_fresh (five x.args) (five (exits x)) x.answer
shows (did_submit x) = by_submit (five x.args) (five (exits x)) x.args.1.1.1.1.1.0.now x.answer.number x.answer.word
shows (did_replay x) = by_replay (five x.args) (five (exits x)) x.args.1.1.1.1.1.0.now x.answer
shows (did_report x) =
    let lent = x.args.1.1.1.1.1 in
    let left = (exits x).1.1.1.1.1 in
    by_report (five x.args) (five (exits x)) lent.0.now
    (report_of lent.1.0.now lent.1.1.0.now lent.1.1.1.0.now)
    (report_of left.1.0.now left.1.1.0.now left.1.1.1.0.now)
    x.answer.number x.answer.entries
shows (did_read x) = by_read x.args.0.now x.answer
shows (did_write x) = by_write x.args.0 x.args.1.0.now (exits x).1.0.now x.answer
shows (did_status x) = by_status x.args.0 x.answer
shows (did_convert x) = by_convert x.args.0.now (exits x).0.now
shows (did_wallet x) = by_lookup (two x.args) (two (exits x)) (wallet_standing x.args.1.1.0 x.answer)
shows (did_escrow_place x) = by_lookup (two x.args) (two (exits x)) (place_of_escrow x.args.1.1.0.0 x.answer)
shows (did_receipt_place x) = by_lookup (two x.args) (two (exits x)) (place_of_receipt x.args.1.1.0.0 x.answer)

-- each by its own contract
pub meets : (d : Did) → Meets first_edition (shows d)
meets (did_fresh x) = (refl, x.meets)
meets (did_submit x) = (refl, x.meets)
meets (did_replay x) = (refl, x.meets)
meets (did_report x) = (refl, x.meets)
meets (did_read x) = x.meets
meets (did_write x) = x.meets
meets (did_status x) = x.meets
meets (did_convert x) = x.meets
meets (did_wallet x) = (refl, x.meets)
meets (did_escrow_place x) = (refl, x.meets)
meets (did_receipt_place x) = (refl, x.meets)

abbrev pub surface : Surface
surface = record {
  Did = Did;
  edition = first_edition;
  sized = record { header = lit≤ tt; escrow = lit≤ tt; small = lit< tt };
  shows = shows;
  meets = meets;
}

pub demand_1 : CallsAreListed surface
demand_1 = calls_are_listed surface

pub demand_2 : CallsDecide surface
demand_2 = calls_decide surface

pub demand_3 : RunsAddUp surface
demand_3 = runs_add_up surface

pub the_retry : RunsRefuseRetries surface
the_retry = runs_refuse_retries surface

pub the_retry_changes_nothing : RetriesChangeNothing surface
the_retry_changes_nothing = retries_change_nothing surface

pub recordings_agree : RunsRecordingsAgree surface
recordings_agree = runs_recordings_agree surface

pub conversions : ConversionsReplay surface
conversions = conversions_replay surface
