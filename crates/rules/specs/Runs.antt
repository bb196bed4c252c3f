-- FROM THE CODE TO THE DEMANDS, runs. A surface is a set of public calls, each with its own contract; a run of it is a list of what its calls
-- did, in the order made, each lent the tables as the one before left them. Demands 1 and 2 are stated of every result, demand 3 of every run.
use Rattle.std.specs.Prelude.{◌≡◌, ◌≢◌, List, [], ◌∷◌, ◌++◌, Bool, true, cond, ◌&&◌, ℕ, zero, suc, length, take, eqb}
use Rattle.rules.specs.Limits.{ESCROW_LEN, RECORD_BYTES, SWEEP, ALL_AGREE, DISAGREES}
use Rattle.rules.specs.Ledger.{Edition, Ledger, Sized, set_header, set_wallets, set_escrows, set_receipts}
use Rattle.rules.specs.Record.{read_of}
use Rattle.rules.specs.Sound.{sound}
use Rattle.rules.specs.Recording.{Entry, as_entry, entries_of, records_of, recording_of}
use Rattle.rules.specs.Replay.{answer, verdict, verdict_of, replay, recorded_from}
use Rattle.rules.specs.Report.{has_named}
use Rattle.rules.specs.Submit.{submit}
use Rattle.rules.specs.History.{Event, submitted, begun, Said, unbroken}
use Rattle.rules.specs.Promises.{AddsUp, SameLengths, started}
use Rattle.rules.specs.Same.{SameWritten}
use Rattle.rules.specs.Converted.{old_rule, DifferInReplies}
use Rattle.rules.specs.Results.{Looked, wallet_standing, place_of_escrow, escrow_row, place_of_receipt, receipt_row, Result, by_fresh, by_submit, by_replay, by_report, by_lookup, by_read, by_write, by_status, by_convert, Meets, Listed, DecidedBy}
use Rattle.rules.specs.declared.Answer.{Answer}
use Rattle.rules.specs.declared.Verdict.{Verdict}

-- the table that a lookup is lent, and the ledger with another in its place
abbrev pub asked : Looked → Ledger → List ℕ
asked (wallet_standing id standing) L = L.wallets
asked (place_of_escrow number place) L = L.escrows
asked (escrow_row number part) L = L.escrows
asked (place_of_receipt number place) L = L.receipts
asked (receipt_row number part) L = L.receipts

abbrev pub set_asked : Looked → List ℕ → Ledger → Ledger
set_asked (wallet_standing id standing) = set_wallets
set_asked (place_of_escrow number place) = set_escrows
set_asked (escrow_row number part) = set_escrows
set_asked (place_of_receipt number place) = set_receipts
set_asked (receipt_row number part) = set_receipts

-- the slices lent to a call are those of the ledger
abbrev pub LentOf : Result → Ledger → Type 0
LentOf (by_fresh lent left number) L = lent ≡ L
LentOf (by_submit lent left bytes number word) L = lent ≡ L
LentOf (by_replay lent left recording verdict) L = lent ≡ L
LentOf (by_report lent left recording before after number entries) L = lent ≡ L
LentOf (by_lookup lent left looked) L = (lent.header ≡ L.header) × (lent.table ≡ asked looked L)
LentOf (by_read bytes answer) L = Unit {0}
LentOf (by_write s out left number) L = Unit {0}
LentOf (by_status number status) L = Unit {0}
LentOf (by_convert recording left) L = Unit {0}

-- the ledger, with those slices as the call left them
abbrev pub left_by : Result → Ledger → Ledger
left_by (by_fresh lent left number) L = left
left_by (by_submit lent left bytes number word) L = left
left_by (by_replay lent left recording verdict) L = left
left_by (by_report lent left recording before after number entries) L = left
left_by (by_lookup lent left looked) L = set_header left.header (set_asked looked left.table L)
left_by (by_read bytes answer) L = L
left_by (by_write s out left number) L = L
left_by (by_status number status) L = L
left_by (by_convert recording left) L = L

-- the first n entries of a recording as they were replayed: each with the answer recorded, but the last of them with that of the core if it
-- disagrees
abbrev pub replayed_in : Bool → Answer → ℕ → List Entry → List Entry
replayed_in disagrees core zero es = []
replayed_in disagrees core (suc n) [] = []
replayed_in disagrees core (suc n) (e ∷ es) =
    let x = cond (disagrees && eqb n 0) core (answer e.number e.word) in
    as_entry e.bytes x.number x.word ∷ replayed_in disagrees core n es

-- the first n entries of a recording as a report read them: the call does not tell what each was answered, but it is what the rules give for their
-- records, one after the other on those tables started afresh
abbrev pub read_in : Ledger → ℕ → List ℕ → List Entry
read_in lent n recording = recorded_from submit (started lent) (records_of (take n (entries_of recording)))

-- what was submitted in a call: each time the bytes, and their answer
abbrev pub submitted_by : Result → List Entry
submitted_by (by_fresh lent left number) = []
submitted_by (by_submit lent left bytes number word) = as_entry bytes number word ∷ []
submitted_by (by_replay lent left recording verdict) =
    replayed_in (eqb verdict.finding DISAGREES) verdict.answered verdict.replayed (entries_of recording)
submitted_by (by_report lent left recording before after number entries) = read_in lent entries recording
submitted_by (by_lookup lent left looked) = []
submitted_by (by_read bytes answer) = []
submitted_by (by_write s out left number) = []
submitted_by (by_status number status) = []
submitted_by (by_convert recording left) = []

-- the same, as events
abbrev pub events : List Entry → List Event
events [] = []
events (e ∷ es) = submitted (record { submission = (read_of e.bytes).submission; number = e.number; word = e.word }) ∷ events es

-- what the caller can write down of a call, without looking at a table. A replay is a start afresh, and then submissions, and so is a report, unless it
-- had stopped before.
abbrev pub heard_of : Result → List Event
heard_of (by_fresh lent left number) = begun number ∷ []
heard_of (by_submit lent left bytes number word) = events (submitted_by (by_submit lent left bytes number word))
heard_of (by_replay lent left recording verdict) = begun verdict.number ∷ events (submitted_by (by_replay lent left recording verdict))
heard_of (by_report lent left recording before after number entries) =
    cond (has_named before) []
    (begun number ∷ events (submitted_by (by_report lent left recording before after number entries)))
heard_of (by_lookup lent left looked) = []
heard_of (by_read bytes answer) = []
heard_of (by_write s out left number) = []
heard_of (by_status number status) = []
heard_of (by_convert recording left) = []

-- what a host has recorded of that: the records of 108 bytes, with their answers. Bytes of another length are refused and cannot be an entry.
abbrev pub recorded : List Entry → List Entry
recorded [] = []
recorded (e ∷ es) = cond (eqb (length e.bytes) RECORD_BYTES) (e ∷ recorded es) (recorded es)

-- the public calls of one edition: what each did, what that showed, and that by its own contract it is what the definitions give
pub record Surface : Type 1 where
  pub Did : Type 0
  pub edition : Edition
  pub sized : Sized edition
  pub shows : Did → Result
  pub meets : (d : Did) → Meets edition (shows d)

module _ (S : Surface) where
  abbrev pub Run : Ledger → List S.Did → Type 0
  Run L [] = Unit {0}
  Run L (d ∷ ds) = LentOf (S.shows d) L × Run (left_by (S.shows d) L) ds

  abbrev pub last_of : Ledger → List S.Did → Ledger
  last_of L [] = L
  last_of L (d ∷ ds) = last_of (left_by (S.shows d) L) ds

  abbrev pub heard_by : List S.Did → List Event
  heard_by [] = []
  heard_by (d ∷ ds) = heard_of (S.shows d) ++ heard_by ds

  abbrev pub submitted_in : List S.Did → List Entry
  submitted_in [] = []
  submitted_in (d ∷ ds) = submitted_by (S.shows d) ++ submitted_in ds

  -- DEMAND 1
  abbrev pub CallsAreListed : Type 0
  CallsAreListed = (d : S.Did) → Listed S.edition (S.shows d)

  -- DEMAND 2
  abbrev pub CallsDecide : Type 0
  CallsDecide = (d : S.Did) → DecidedBy (S.shows d)

  -- DEMAND 3. A run in which a start afresh answered 0 is the first that is heard, on any tables, adds up, and its ledger is sound. A later
  -- start that is answered 0 begins the book again.
  abbrev pub RunsAddUp : Type 0
  RunsAddUp =
      (L : Ledger) (run : List S.Did) (heard : List Event) → Run L run → heard_by run ≡ (begun 0 ∷ heard) →
      AddsUp (last_of L run) (heard_by run) × (sound (last_of L run) ≡ true)

  -- THE RETRY. Of two submissions that are heard in a run, in a replay or not, with one signer and nonce, the first settled and no sweep, and
  -- no start between them that is answered 0, the later one is a refusal, whatever lies between.
  abbrev pub RunsRefuseRetries : Type 0
  RunsRefuseRetries =
      (L : Ledger) (run : List S.Did) (before between behind : List Event) (e f : Said) → Run L run →
      heard_by run ≡ before ++ (submitted e ∷ (between ++ (submitted f ∷ behind))) → unbroken between ≡ true →
      e.number ≡ 0 → e.submission.op ≢ SWEEP →
      f.submission.signer ≡ e.submission.signer → f.submission.nonce ≡ e.submission.nonce →
      (f.number ≢ 0) × (f.word ≡ 0)

  -- and if it is submitted by itself, it leaves all words as they were
  abbrev pub RetriesChangeNothing : Type 0
  RetriesChangeNothing =
      (L : Ledger) (run : List S.Did) (again : S.Did) (before between : List Event) (e f : Said) → Run L (run ++ (again ∷ [])) →
      heard_by run ≡ before ++ (submitted e ∷ between) → heard_of (S.shows again) ≡ (submitted f ∷ []) → unbroken between ≡ true →
      e.number ≡ 0 → e.submission.op ≢ SWEEP →
      f.submission.signer ≡ e.submission.signer → f.submission.nonce ≡ e.submission.nonce →
      left_by (S.shows again) (last_of L run) ≡ last_of L run

  -- DOCUMENT 02, REQUEST 1. What was recorded in a run in which a start afresh answered 0 is the first that is heard, and no other is, always
  -- agrees: all of it, replayed on any tables of the same lengths, whatever words they hold. What is left there has the same header and written
  -- rows as what the run left. The start may be a replay: what it replayed, with the core's answers, is then where the recording begins.
  abbrev pub RunsRecordingsAgree : Type 0
  RunsRecordingsAgree =
      (L : Ledger) (run : List S.Did) (heard : List Event) → Run L run → heard_by run ≡ (begun 0 ∷ heard) → unbroken heard ≡ true →
      S.edition.escrow ≡ ESCROW_LEN →
      (again : S.Did) (lent left : Ledger) (v : Verdict) → S.shows again ≡ by_replay lent left (recording_of (recorded (submitted_in run))) v →
      SameLengths lent L →
      (v ≡ verdict 0 ALL_AGREE (length (recorded (submitted_in run))) (answer 0 0) (answer 0 0)) × SameWritten left (last_of L run)

  -- DOCUMENT 02, REQUEST 7. A recording that a conversion left is replayed, on any tables lent, as the old one is by the old form: the same verdict, and
  -- tables that differ in the journal's operation word of replies only.
  abbrev pub ConversionsReplay : Type 0
  ConversionsReplay =
      (d again : S.Did) (old new : List ℕ) (lent left : Ledger) (v : Verdict) → S.shows d ≡ by_convert old new → S.shows again ≡ by_replay lent left new v →
      (v ≡ verdict_of (replay old_rule lent old).found) × DifferInReplies (replay old_rule lent old).left left
