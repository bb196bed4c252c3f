-- THE PROMISES of document 02, request 1. Their proofs stand in proofs/, under the same names in small letters.
use Rattle.std.specs.Prelude.{◌≡◌, ◌≢◌, ◌⊎◌, List, [], ◌∷◌, ◌++◌, true, false, ℕ, ◌+◌, ◌≤◌, ◌<◌, ◌^◌, length}
use Rattle.rules.specs.Limits.{ESCROW_LEN, MAX_ESCROWS, RECORD_BYTES, ENTRY_BYTES, NOT_REPLAYED, ALL_AGREE, CUT_SHORT, DISAGREES}
use Rattle.rules.specs.Ledger.{Ledger, lengths_right}
use Rattle.rules.specs.Submit.{submit}
use Rattle.rules.specs.Recording.{Entry, entries_of, cut_short, recording_of}
use Rattle.rules.specs.Replay.{Gone, gone, answer, verdict, verdict_of, told, replay, recorded_from, ledger_after}
use Rattle.rules.specs.Promises.{Lent, SameLengths, started}
use Rattle.rules.specs.Same.{SameWritten, SameOutcome}
use Rattle.rules.specs.declared.Found.{Found}
use Rattle.rules.specs.declared.Verdict.{Verdict}

-- HEADER AND WRITTEN ROWS ALONE DECIDE an answer, its word, and the header and written rows left. A new escrow must be a whole row.
abbrev pub SameAnswers : Type 0
SameAnswers = (K L : Ledger) → L.edition.escrow ≡ ESCROW_LEN → SameWritten K L → (b : List ℕ) → SameOutcome (submit K b) (submit L b)

-- every answer's word is at most 4,096, so eight bytes hold it
abbrev pub WordsAreSmall : Type 0
WordsAreSmall = (L : Ledger) → ESCROW_LEN ≤ L.edition.escrow → (b : List ℕ) → (submit L b).word ≤ MAX_ESCROWS

-- enough of an entry to be read back: 108 bytes of record, a word of 64 bits
pub record Whole (e : Entry) : Type 0 where
  pub bytes : length e.bytes ≡ RECORD_BYTES
  pub word : e.word < 2 ^ 64

abbrev pub AllWhole : List Entry → Type 0
AllWhole [] = Unit {0}
AllWhole (e ∷ es) = Whole e × AllWhole es

abbrev pub AllRecords : List (List ℕ) → Type 0
AllRecords [] = Unit {0}
AllRecords (b ∷ bs) = (length b ≡ RECORD_BYTES) × AllRecords bs

-- what is recorded is read back, whatever bytes follow
abbrev pub RecordedRead : Type 0
RecordedRead =
    (es : List Entry) → AllWhole es → (rest : List ℕ) →
    (entries_of (recording_of es ++ rest) ≡ es ++ entries_of rest) × (cut_short (recording_of es ++ rest) ≡ cut_short rest)

-- "TABLES OF A WRONG LENGTH ARE ANSWER 1", nothing is replayed and nothing changed; on all others the answer is 0
abbrev pub ReplayAnswers : Type 0
ReplayAnswers =
    (L : Ledger) (r : List ℕ) →
    ((lengths_right L ≡ true) × ((verdict_of (replay submit L r).found).number ≡ 0))
    ⊎ ((lengths_right L ≡ false) × (told (replay submit L r) ≡ gone (verdict 1 NOT_REPLAYED 0 (answer 0 0) (answer 0 0)) L))

-- what a replay found, in numbers, and a ledger of the same header and written rows as the one left
pub record Finds (v : Verdict) (K : Ledger) (g : Gone Found) : Type 0 where
  pub found : verdict_of g.found ≡ v
  pub left : SameWritten g.left K

-- what our own core records of records submitted to these tables, started afresh; and the ledger that they leave
abbrev pub own : Ledger → List (List ℕ) → List ℕ
own K bs = recording_of (recorded_from submit (started K) bs)

abbrev pub left_by : Ledger → List (List ℕ) → Ledger
left_by K bs = ledger_after submit (started K) bs

-- any two sets of tables of right and equal lengths, WHATEVER WORDS THEY HOLD, with escrow rows of eight words, and any records of 108 bytes
pub record TwoSets (K L : Ledger) (bs : List (List ℕ)) : Type 0 where
  pub lent : Lent K
  pub escrow : K.edition.escrow ≡ ESCROW_LEN
  pub lengths : SameLengths L K
  pub records : AllRecords bs

-- "A RECORDING THAT OUR OWN CORE MADE on a fresh ledger of the same sizes must always agree": all of it, replayed on the second
abbrev pub OwnRecordingsAgree : Type 0
OwnRecordingsAgree =
    (K L : Ledger) (bs : List (List ℕ)) → TwoSets K L bs →
    Finds (verdict 0 ALL_AGREE (length bs) (answer 0 0) (answer 0 0)) (left_by K bs) (replay submit L (own K bs))

-- 1 to 116 more bytes are reported as an entry cut short, which is not replayed
abbrev pub CutEntriesAreFound : Type 0
CutEntriesAreFound =
    (K L : Ledger) (bs : List (List ℕ)) → TwoSets K L bs → (rest : List ℕ) → 1 ≤ length rest → length rest < ENTRY_BYTES →
    Finds (verdict 0 CUT_SHORT (length bs) (answer 0 0) (answer 0 0)) (left_by K bs) (replay submit L (own K bs ++ rest))

-- an entry with another number or another word is reported with both answers, whatever bytes follow; it has been replayed, so its effect stays
abbrev pub ChangesAreFound : Type 0
ChangesAreFound =
    (K L : Ledger) (bs : List (List ℕ)) → TwoSets K L bs → (e : Entry) → Whole e → (rest : List ℕ) →
    let o = submit (left_by K bs) e.bytes in
    (e.number ≢ o.number) ⊎ (e.word ≢ o.word) →
    Finds (verdict 0 DISAGREES (length bs + 1) (answer e.number e.word) (answer o.number o.word)) o.left
    (replay submit L (own K bs ++ (recording_of (e ∷ []) ++ rest)))
