-- FROM THE CODE TO THE DEMANDS, one call. What a call of a function did is `Ran`: any arguments, and an answer and last words that the function's
-- own contract permits. It is stated over the contract that the toolchain reads off the source, so no text of a contract is repeated in it.
-- What it showed is a `Result` in plain words, and demands 1 and 2 are stated of that.
use Rattle.std.specs.Prelude.{◌≡◌, ◌≢◌, ◌⊎◌, List, [], true, ℕ, ◌≤◌, length}
use contract.Lifetimes.{Lfts}
use borrow.Fn.Kind.{ParamKind, ResultKind}
use borrow.Fn.Kinds.{Dens, Out, res_t, ended_of}
use denote.Triple.Clauses.{Lasts, AtExit, at_exit}
use Rattle.rules.specs.Limits.{WALLET_LEN, RECEIPT_LEN, LAST_ANSWER, NOT_REPLAYED, ALL_AGREE, CUT_SHORT, DISAGREES}
use Rattle.rules.specs.Table.{rows_in}
use Rattle.rules.specs.Ledger.{Edition, Ledger, outcome, set_header, fresh_header, fresh}
use Rattle.rules.specs.Record.{read_of, nothing, Written, write_of}
use Rattle.rules.specs.Refusals.{refusals}
use Rattle.rules.specs.Settle.{settle}
use Rattle.rules.specs.Submit.{submit}
use Rattle.rules.specs.Lookup.{escrow_place, escrow_part, receipt_place, receipt_part, wallet_state}
use Rattle.rules.specs.Wallets.{standing_of}
use Rattle.rules.specs.Status.{statuses, status_of}
use Rattle.rules.specs.Replay.{gone, told, replay}
use Rattle.rules.specs.Report.{Report, telling, report}
use Rattle.rules.specs.Convert.{converted}
use Rattle.rules.specs.Promises.{none, IsFirst, Stands}
use Rattle.rules.specs.declared.Submission.{Submission}
use Rattle.rules.specs.declared.Read.{Read}
use Rattle.rules.specs.declared.Verdict.{Verdict}
use Rattle.rules.specs.declared.Standing.{Standing}

-- ---- A call, by its own contract

-- `meets` is the function's own `ensures`. A slice lent as `&` has no last words: it is seen at exit as it was at entry.
pub record Ran {n : ℕ} (ps : List (ParamKind n)) (r : ResultKind n) (Learnt : Out n ps r) : Type 0 where
  pub lifetimes : Lfts n
  pub args : Dens lifetimes ps
  pub answer : (res_t r lifetimes).Denot
  pub lasts : Lasts (ended_of n ps r) lifetimes args
  pub meets : Learnt lifetimes args answer (at_exit (ended_of n ps r) lifetimes args lasts)

-- the parameters at exit
abbrev pub exits : {n : ℕ} {ps : List (ParamKind n)} {r : ResultKind n} {Learnt : Out n ps r} (x : Ran ps r Learnt) → AtExit (ended_of n ps r) x.lifetimes
exits {n} {ps} {r} x = at_exit (ended_of n ps r) x.lifetimes x.args x.lasts

-- what a call shows: its answer, and what it left
abbrev pub Shows : {n : ℕ} (ps : List (ParamKind n)) (r : ResultKind n) → Type 0 → Type 0
Shows {n} ps r A = (κs : Lfts n) → (res_t r κs).Denot → AtExit (ended_of n ps r) κs → A

-- any two answers that a contract permits to the same arguments show the same
abbrev pub Sole : {n : ℕ} (ps : List (ParamKind n)) (r : ResultKind n) → Out n ps r → (A : Type 0) → Shows ps r A → Type 0
Sole {n} ps r Learnt A shows =
    (κs : Lfts n) (a : Dens κs ps) (x y : (res_t r κs).Denot) (v w : Lasts (ended_of n ps r) κs a) →
    Learnt κs a x (at_exit (ended_of n ps r) κs a v) → Learnt κs a y (at_exit (ended_of n ps r) κs a w) →
    shows κs x (at_exit (ended_of n ps r) κs a v) ≡ shows κs y (at_exit (ended_of n ps r) κs a w)

-- ---- What it showed

-- the header and one table, as a lookup is lent them
pub record Pair : Type 0 where
  pub header : List ℕ
  pub table : List ℕ

abbrev pub pair : List ℕ → List ℕ → Pair
pair header table = record { header = header; table = table }

-- what a lookup was asked, and the answer
pub data Looked : Type 0 where
  wallet_standing : (id : ℕ) (standing : Standing) → Looked
  place_of_escrow : (number place : ℕ) → Looked
  escrow_row : (number : ℕ) (part : List ℕ) → Looked
  place_of_receipt : (number place : ℕ) → Looked
  receipt_row : (number : ℕ) (part : List ℕ) → Looked

-- what was lent, what was left, what was asked, and the answer
pub data Result : Type 0 where
  by_fresh : (lent left : Ledger) (number : ℕ) → Result
  by_submit : (lent left : Ledger) (bytes : List ℕ) (number word : ℕ) → Result
  by_replay : (lent left : Ledger) (recording : List ℕ) (verdict : Verdict) → Result
  by_report : (lent left : Ledger) (recording : List ℕ) (before after : Report) (number entries : ℕ) → Result
  by_lookup : (lent left : Pair) (looked : Looked) → Result
  by_read : (bytes : List ℕ) (answer : Read) → Result
  by_write : (s : Submission) (out left : List ℕ) (number : ℕ) → Result
  by_status : (number status : ℕ) → Result
  by_convert : (recording left : List ℕ) → Result

-- a lookup finds what the definitions find
abbrev pub FindsAs : Edition → Pair → Looked → Type 0
FindsAs e lent (wallet_standing id standing) = standing ≡ standing_of (wallet_state e lent.header lent.table id)
FindsAs e lent (place_of_escrow number place) = place ≡ escrow_place e lent.header lent.table number
FindsAs e lent (escrow_row number part) = part ≡ escrow_part e lent.header lent.table number
FindsAs e lent (place_of_receipt number place) = place ≡ receipt_place e lent.header lent.table number
FindsAs e lent (receipt_row number part) = part ≡ receipt_part e lent.header lent.table number

-- it is what the definitions give
abbrev pub Meets : Edition → Result → Type 0
Meets e (by_fresh lent left number) = (lent.edition ≡ e) × (outcome number 0 left ≡ fresh lent)
Meets e (by_submit lent left bytes number word) = (lent.edition ≡ e) × (outcome number word left ≡ submit lent bytes)
Meets e (by_replay lent left recording verdict) = (lent.edition ≡ e) × (gone verdict left ≡ told (replay submit lent recording))
Meets e (by_report lent left recording before after number entries) =
    (lent.edition ≡ e) × (telling number entries after left ≡ report submit before lent recording)
Meets e (by_lookup lent left looked) = (left ≡ lent) × FindsAs e lent looked
Meets e (by_read bytes answer) = answer ≡ read_of bytes
Meets e (by_write s out left number) = ◌≡◌ {A = Written} (record { number = number; out = left }) (write_of s out)
Meets e (by_status number status) = status ≡ status_of number
Meets e (by_convert recording left) = left ≡ converted recording

-- ---- Demand 1 of a result: its answer is on the list, and a refusal answers the word 0 and changes nothing

-- "a lookup: the row, row number or empty part"
abbrev pub PartOf : Edition → List ℕ → Looked → Type 0
PartOf e table (wallet_standing id standing) = Stands (rows_in WALLET_LEN table) standing
PartOf e table (place_of_escrow number place) = place ≤ length table
PartOf e table (escrow_row number part) = (part ≡ []) ⊎ (length part ≡ e.escrow)
PartOf e table (place_of_receipt number place) = place ≤ length table
PartOf e table (receipt_row number part) = (part ≡ []) ⊎ (length part ≡ RECEIPT_LEN)

-- one of the three findings, and what the core answered to an entry is on the list too
pub record Finding (v : Verdict) : Type 0 where
  pub number : v.number ≡ 0
  pub finding : (v.finding ≡ ALL_AGREE) ⊎ ((v.finding ≡ CUT_SHORT) ⊎ (v.finding ≡ DISAGREES))
  pub answered : v.answered.number ≤ LAST_ANSWER
  pub word : v.answered.number ≢ 0 → v.answered.word ≡ 0

abbrev pub Listed : Edition → Result → Type 0
Listed e (by_fresh lent left number) =
    ((number ≡ 0) × (left ≡ set_header (fresh_header e) lent)) ⊎ ((number ≡ 1) × (left ≡ lent))
Listed e (by_submit lent left bytes number word) = (number ≤ LAST_ANSWER) × (number ≢ 0 → (word ≡ 0) × (left ≡ lent))
Listed e (by_replay lent left recording verdict) =
    Finding verdict ⊎ ((verdict.number ≡ 1) × (verdict.finding ≡ NOT_REPLAYED) × (left ≡ lent))
Listed e (by_report lent left recording before after number entries) =
    (number ≡ 0) ⊎ ((number ≡ 1) × (entries ≡ 0) × (after ≡ before) × (left ≡ lent))
Listed e (by_lookup lent left looked) = (left ≡ lent) × PartOf e lent.table looked
Listed e (by_read bytes answer) = (answer.number ≡ 0) ⊎ ((answer.number ≡ 3) × (answer.submission ≡ nothing))
Listed e (by_write s out left number) = (number ≡ 0) ⊎ ((number ≡ 3) × (left ≡ out))
Listed e (by_status number status) = length statuses ≤ number → status ≡ 500
-- the converter refuses nothing, and has no answer but the bytes
Listed e (by_convert recording left) = length left ≡ length recording

-- ---- Demand 2 of a result: settled exactly when no check refuses, and then as laid down; otherwise the first refusal

pub record Decided (lent left : Ledger) (bytes : List ℕ) (number word : ℕ) : Type 0 where
  pub settles : number ≡ 0 → none (refusals lent (read_of bytes)) ≡ true
  pub exactly : none (refusals lent (read_of bytes)) ≡ true → number ≡ 0
  pub first : number ≢ 0 → IsFirst number (refusals lent (read_of bytes))
  pub laid_down : number ≡ 0 → (word ≡ (settle (read_of bytes).submission lent).word) × (left ≡ (settle (read_of bytes).submission lent).after)

abbrev pub DecidedBy : Result → Type 0
DecidedBy (by_fresh lent left number) = Unit {0}
DecidedBy (by_submit lent left bytes number word) = Decided lent left bytes number word
DecidedBy (by_replay lent left recording verdict) = Unit {0}
DecidedBy (by_report lent left recording before after number entries) = Unit {0}
DecidedBy (by_lookup lent left looked) = Unit {0}
DecidedBy (by_read bytes answer) = Unit {0}
DecidedBy (by_write s out left number) = Unit {0}
DecidedBy (by_status number status) = Unit {0}
DecidedBy (by_convert recording left) = Unit {0}
