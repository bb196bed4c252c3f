-- THE PROMISES of document 02, request 7, of records, answers and reports. Their proofs stand in proofs/, under the same names in small letters. Those of
-- the converter are in Converted.antt.
use Rattle.std.specs.Prelude.{◌≡◌, List, true, false, ℕ}
use Rattle.rules.specs.Limits.{REPLY, OLD_DISPUTE, ACCEPTS, REASON_GIVEN}
use Rattle.rules.specs.Ledger.{Ledger}
use Rattle.rules.specs.Record.{decode, read_of}
use Rattle.rules.specs.Refusals.{clear}
use Rattle.rules.specs.Submit.{submit}
use Rattle.rules.specs.Report.{Report, cell}
use Rattle.rules.specs.Month.{Open, Lending, AllLent, month}

-- "OPERATION 8 IS MALFORMED FROM NOW ON", whatever else the bytes say
abbrev pub EightIsMalformed : Type 0
EightIsMalformed = (b : List ℕ) → (decode b).op ≡ OLD_DISPUTE → (read_of b).number ≡ 3

-- "ACCEPT REQUIRES BIT 3 TO BE CLEAR; OTHERWISE THE RECORD IS MALFORMED"
abbrev pub AcceptsWithoutReason : Type 0
AcceptsWithoutReason =
    (b : List ℕ) → (read_of b).number ≡ 0 → (read_of b).submission.op ≡ REPLY → clear (read_of b).submission ACCEPTS ≡ false →
    clear (read_of b).submission REASON_GIVEN ≡ true

-- ".. AND 35 .., 35 ONLY FOR A DISPUTE": what is answered 35 is a dispute without a reason
abbrev pub ReasonAskedOfDisputes : Type 0
ReasonAskedOfDisputes =
    (L : Ledger) (b : List ℕ) → (submit L b).number ≡ 35 →
    ((read_of b).submission.op ≡ REPLY) × (clear (read_of b).submission ACCEPTS ≡ true) × (clear (read_of b).submission REASON_GIVEN ≡ true)

-- ".. AND COUNTED IN THE GRID'S ROW 0": row 8 stays, and no recording adds to it
abbrev pub Row8Stays : Type 0
Row8Stays =
    (ms : List Lending) → AllLent ms → (R : Report) → Open R → (column : ℕ) → cell (month R ms).grid OLD_DISPUTE column ≡ cell R.grid OLD_DISPUTE column
