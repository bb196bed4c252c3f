-- THE DEMANDS OF THE CODE. What a public call of `ledger`, `record` or `rules` did, by that call's own contract; what it showed; and so the
-- three demands of every call and of every run.
use mathlib.Core.Path.{refl, ap}
use lib.Dec.{lit<, lit≤}
use Rattle.rules.specs.Ledger.{Ledger, first_edition}
use Rattle.rules.specs.Moments.{Slice, View, tables}
use Rattle.rules.specs.Numbers.{as_number, word_of, read_as}
use Rattle.rules.specs.Record.{read_of}
use Rattle.rules.specs.Results.{Ran, exits, Pair, pair, Result, by_fresh, by_submit, by_lookup, wallet_standing, place_of_escrow, escrow_row, place_of_receipt, receipt_row, by_read, by_write, by_status, Meets}
use Rattle.rules.specs.Runs.{Surface, CallsAreListed, CallsDecide, RunsAddUp, RunsRefuseRetries, RetriesChangeNothing}
use Rattle.rules.specs.Wallets.{standing_of}
use Rattle.rules.proofs.Runs.{calls_are_listed, calls_decide, runs_add_up, runs_refuse_retries, retries_change_nothing}
use Rattle.rules.proofs.status.Kinds as status_kinds
use Rattle.rules.proofs.status.Reads as status_reads
use Rattle.record.proofs.read_record.Kinds as read_kinds
use Rattle.record.proofs.read_record.Reads as read_reads
use Rattle.record.proofs.write_record.Kinds as write_kinds
use Rattle.record.proofs.write_record.Reads as write_reads
use Rattle.record.proofs.trips.write_read.Kinds as write_read_kinds
use Rattle.record.proofs.trips.write_read.Reads as write_read_reads
use Rattle.record.proofs.trips.read_write.Kinds as read_write_kinds
use Rattle.record.proofs.trips.read_write.Reads as read_write_reads
use Rattle.ledger.proofs.fresh.Kinds as fresh_kinds
use Rattle.ledger.proofs.fresh.Reads as fresh_reads
use Rattle.ledger.proofs.submit.Kinds as submit_kinds
use Rattle.ledger.proofs.submit.Reads as submit_reads
use Rattle.ledger.proofs.lookups.wallet_row.Kinds as wallet_kinds
use Rattle.ledger.proofs.lookups.wallet_row.Reads as wallet_reads
use Rattle.ledger.proofs.lookups.escrow_place.Kinds as escrow_place_kinds
use Rattle.ledger.proofs.lookups.escrow_place.Reads as escrow_place_reads
use Rattle.ledger.proofs.lookups.receipt_place.Kinds as receipt_place_kinds
use Rattle.ledger.proofs.lookups.receipt_place.Reads as receipt_place_reads
use Rattle.ledger.proofs.lookups.escrow_row.Kinds as escrow_row_kinds
use Rattle.ledger.proofs.lookups.escrow_row.Reads as escrow_row_reads
use Rattle.ledger.proofs.lookups.receipt_row.Kinds as receipt_row_kinds
use Rattle.ledger.proofs.lookups.receipt_row.Reads as receipt_row_reads

-- the five tables, with which the parameters of a call begin
abbrev pub five : {X : Type 0} → Slice × (Slice × (Slice × (Slice × (Slice × X)))) → Ledger
five t = tables first_edition t.0 t.1.0 t.1.1.0 t.1.1.1.0 t.1.1.1.1.0

-- the header and one table, with which those of a lookup begin
abbrev pub two : {X : Type 0} → View × (View × X) → Pair
two t = pair t.0.now t.1.0.now

-- one call of each public function
pub data Did : Type 0 where
  did_fresh : Ran fresh_kinds.ps fresh_kinds.r fresh_reads.Learnt → Did
  did_submit : Ran submit_kinds.ps submit_kinds.r submit_reads.Learnt → Did
  did_read : Ran read_kinds.ps read_kinds.r read_reads.Learnt → Did
  did_write : Ran write_kinds.ps write_kinds.r write_reads.Learnt → Did
  did_write_read : Ran write_read_kinds.ps write_read_kinds.r write_read_reads.Learnt → Did
  did_read_write : Ran read_write_kinds.ps read_write_kinds.r read_write_reads.Learnt → Did
  did_status : Ran status_kinds.ps status_kinds.r status_reads.Learnt → Did
  did_wallet : Ran wallet_kinds.ps wallet_kinds.r wallet_reads.Learnt → Did
  did_escrow_place : Ran escrow_place_kinds.ps escrow_place_kinds.r escrow_place_reads.Learnt → Did
  did_escrow_row : Ran escrow_row_kinds.ps escrow_row_kinds.r escrow_row_reads.Learnt → Did
  did_receipt_place : Ran receipt_place_kinds.ps receipt_place_kinds.r receipt_place_reads.Learnt → Did
  did_receipt_row : Ran receipt_row_kinds.ps receipt_row_kinds.r receipt_row_reads.Learnt → Did

-- what it was lent, left, asked and answered: its parameters at entry and at exit, in the order of the source. An answer is shown in the paper's numbers,
-- which decide it (`rules.proofs.Numbers`), a round trip by its second half, and what was found of a wallet in numbers.
abbrev pub shows : Did → Result
shows (did_fresh x) = by_fresh (five x.args) (five (exits x)) (as_number x.answer)
shows (did_submit x) = by_submit (five x.args) (five (exits x)) x.args.1.1.1.1.1.0.now (as_number x.answer) (word_of x.answer)
shows (did_read x) = by_read x.args.0.now (read_as x.answer)
shows (did_write x) = by_write x.args.0 x.args.1.0.now (exits x).1.0.now (as_number x.answer)
shows (did_write_read x) = by_read (exits x).1.0.now (read_as x.answer)
shows (did_read_write x) = by_write (read_of x.args.0.now).submission x.args.1.0.now (exits x).1.0.now (as_number x.answer)
shows (did_status x) = by_status x.args.0 x.answer
shows (did_wallet x) = by_lookup (two x.args) (two (exits x)) (wallet_standing x.args.1.1.0 (standing_of x.answer))
shows (did_escrow_place x) = by_lookup (two x.args) (two (exits x)) (place_of_escrow x.args.1.1.0.0 x.answer)
shows (did_escrow_row x) = by_lookup (two x.args) (two (exits x)) (escrow_row x.args.1.1.0.0 x.answer.now)
shows (did_receipt_place x) = by_lookup (two x.args) (two (exits x)) (place_of_receipt x.args.1.1.0.0 x.answer)
shows (did_receipt_row x) = by_lookup (two x.args) (two (exits x)) (receipt_row x.args.1.1.0.0 x.answer.now)

-- each by its own contract
pub meets : (d : Did) → Meets first_edition (shows d)
meets (did_fresh x) = (refl, x.meets)
meets (did_submit x) = (refl, x.meets)
meets (did_read x) = x.meets
meets (did_write x) = x.meets
meets (did_write_read x) = x.meets.1
meets (did_read_write x) = x.meets.0
meets (did_status x) = x.meets
meets (did_wallet x) = (refl, ap standing_of x.meets)
meets (did_escrow_place x) = (refl, x.meets)
meets (did_escrow_row x) = (refl, x.meets.0)
meets (did_receipt_place x) = (refl, x.meets)
meets (did_receipt_row x) = (refl, x.meets.0)

abbrev pub surface : Surface
surface = record {
  Did = Did;
  edition = first_edition;
  sized = record { header = lit≤ tt; escrow = lit≤ tt; small = lit< tt };
  shows = shows;
  meets = meets;
}

pub demand_1 : CallsAreListed surface
demand_1 = calls_are_listed surface

pub demand_2 : CallsDecide surface
demand_2 = calls_decide surface

pub demand_3 : RunsAddUp surface
demand_3 = runs_add_up surface

pub the_retry : RunsRefuseRetries surface
the_retry = runs_refuse_retries surface

pub the_retry_changes_nothing : RetriesChangeNothing surface
the_retry_changes_nothing = retries_change_nothing surface
