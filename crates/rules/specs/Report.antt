-- Document 02, request 3: the month's report. "Accounts wants, over any number of recordings, a grid of counts by operation and answer", and
-- "beside it: credits granted, transferred, released, refunded and expired". "Each recording is replayed on a fresh ledger, and what is counted is
-- the core's own answer; entries cut short are not counted."
use Rattle.std.specs.Prelude.{List, [], ◌∷◌, ◌++◌, Bool, not, cond, ◌&&◌, ℕ, ◌+◌, get_or, set, replicate, eqb, ltb, leb}
use Rattle.rules.specs.Limits.{LAST_OPERATION, GRID_ROWS, ANSWERS, LAST_FIGURE, FIGURES, GRANTED_SUM, TRANSFERRED_SUM, RELEASED_SUM, REFUNDED_SUM, EXPIRED_SUM, NAMED_FIGURE}
use Rattle.rules.specs.Limits.{GRANT, TRANSFER, ESCROW_AMOUNT, ESCROW_STATE, IS_OPEN, RELEASED, REFUNDED, EXPIRED}
use Rattle.rules.specs.Table.{sum}
use Rattle.rules.specs.Ledger.{Ledger, Outcome, escrow, escrow_count, lengths_right, fresh}
use Rattle.rules.specs.Record.{in_form, decode, read_of}
use Rattle.rules.specs.Recording.{Entry, entries_of}
use Rattle.rules.specs.Replay.{Rule, Next, on, stop_before, Gone, through}
use Rattle.rules.specs.declared.Form.TheVariants.{Today}
use Rattle.rules.specs.declared.Submission.{Submission}

-- ---- The grid, and the report so far

-- "one row for every operation and a row 0 .., one column per answer": a list of rows, each a list of counts
abbrev pub Grid : Type 0
Grid = List (List ℕ)

abbrev pub cell : Grid → ℕ → ℕ → ℕ
cell grid row column = get_or (get_or grid row []) column 0

-- one more in a cell
abbrev pub raised : Grid → ℕ → ℕ → Grid
raised grid row column = set grid row (set (get_or grid row []) column (cell grid row column + 1))

-- the counts; the credits granted, transferred, released, refunded and expired; and the figure that the report has named, if any, with the row and
-- the column of the entry that it stopped before
pub record Report : Type 0 where
  pub grid : Grid
  pub figures : List ℕ
  pub named : List ℕ

abbrev pub report_of : Grid → List ℕ → List ℕ → Report
report_of grid figures named = record { grid = grid; figures = figures; named = named }

-- nothing counted yet
abbrev pub blank_report : Report
blank_report = report_of (replicate GRID_ROWS (replicate ANSWERS 0)) (replicate FIGURES 0) (0 ∷ 0 ∷ 0 ∷ [])

abbrev pub has_named : Report → Bool
has_named R = not (eqb (get_or R.named NAMED_FIGURE 0) 0)

-- ---- What an entry is in it

-- "one row for every operation and a row 0 for records whose operation byte is none of them". Operation 8 is "counted in the grid's row 0"; row 8 stays
abbrev pub grid_row : ℕ → ℕ
grid_row op = cond (leb op LAST_OPERATION && in_form Today op) op 0

-- the amount of a submission of this operation that settled
abbrev pub settled_of : ℕ → Submission → ℕ → ℕ
settled_of op s number = cond (eqb number 0 && eqb s.op op) s.amount 0

-- the amounts of the escrows that ended in this state: open before, and in it after
unfoldable pub ended_as : ℕ → Ledger → Ledger → ℕ
ended_as state L M =
    sum (escrow_count L) (λ i. cond (eqb (escrow L i ESCROW_STATE) IS_OPEN && eqb (escrow M i ESCROW_STATE) state) (escrow L i ESCROW_AMOUNT) 0)

-- "credits granted, transferred, released, refunded and expired" by a submission with this outcome. Released by a release, by an accept or by a
-- sweep: the tables before and after say it
unfoldable pub adds_of : Ledger → Submission → Outcome → List ℕ
adds_of L s o =
    settled_of GRANT s o.number ∷ settled_of TRANSFER s o.number
    ∷ ended_as RELEASED L o.left ∷ ended_as REFUNDED L o.left ∷ ended_as EXPIRED L o.left ∷ []

-- its cell, and what it adds to the figures. A record that is malformed counts in the row of its operation byte all the same
pub record Line : Type 0 where
  pub row : ℕ
  pub column : ℕ
  pub adds : List ℕ

abbrev pub line_of : Ledger → List ℕ → Outcome → Line
line_of L bytes o = record { row = grid_row (decode bytes).op; column = o.number; adds = adds_of L (read_of bytes).submission o }

-- ---- An entry counted, or the stop before it

-- the five figures with what is added
abbrev pub sums : List ℕ → List ℕ → List ℕ
sums figures adds =
    let each : ℕ → ℕ = λ k. get_or figures k 0 + get_or adds k 0 in
    each GRANTED_SUM ∷ each TRANSFERRED_SUM ∷ each RELEASED_SUM ∷ each REFUNDED_SUM ∷ each EXPIRED_SUM ∷ []

unfoldable pub tallied : Report → Line → Report
tallied R l = report_of (raised R.grid l.row l.column) (sums R.figures l.adds) R.named

-- the place of the first number of a list that passes 2^64 - 1, from n on; 0 if none does
abbrev pub first_past : ℕ → List ℕ → ℕ
first_past n [] = 0
first_past n (x ∷ xs) = cond (ltb LAST_FIGURE x) n (first_past (n + 1) xs)

-- what the five figures and the cell would be, in this order, "the grid's cells last"
abbrev pub would_be : Report → Line → List ℕ
would_be R l = sums R.figures l.adds ++ ((cell R.grid l.row l.column + 1) ∷ [])

-- "if a figure would pass 2^64 − 1, the report names it (of several the first in this order, the grid's cells last)"
unfoldable pub passing : Report → Line → ℕ
passing R l = first_past 1 (would_be R l)

unfoldable pub stopped : Report → Line → Report
stopped R l = report_of R.grid R.figures (passing R l ∷ l.row ∷ l.column ∷ [])

-- ---- A recording added

-- the report so far, and how many entries of this recording were read
pub record Reading : Type 0 where
  pub report : Report
  pub entries : ℕ

abbrev pub reading : Report → ℕ → Reading
reading R n = record { report = R; entries = n }

-- ".. and stops before that entry": it is neither counted nor applied
unfoldable pub reported : Reading → Ledger → Entry → Outcome → Next Reading Reading
reported k L e o =
    let l = line_of L e.bytes o in
    cond (eqb (passing k.report l) 0) (on (reading (tallied k.report l) (k.entries + 1))) (stop_before (reading (stopped k.report l) k.entries))

abbrev ends_so : Reading → Reading
ends_so k = k

-- on tables as they are: recorded answers are not looked at
unfoldable pub report_on : Rule → Report → Ledger → List ℕ → Gone Reading
report_on rule R L r = through rule reported ends_so (reading R 0) L (entries_of r)

-- what the call answers, how many entries it read, the report, and the tables left
pub record Reported : Type 0 where
  pub number : ℕ
  pub entries : ℕ
  pub report : Report
  pub left : Ledger

abbrev pub telling : ℕ → ℕ → Report → Ledger → Reported
telling number entries R left = record { number = number; entries = entries; report = R; left = left }

abbrev pub telling_of : Gone Reading → Reported
telling_of g = telling 0 g.found.entries g.found.report g.left

-- THE CALL: a report so far, tables, a recording. Tables of a wrong length are answer 1; a report that has named a figure has stopped, and it and the
-- tables stay as they are; otherwise the tables are started afresh
unfoldable pub report : Rule → Report → Ledger → List ℕ → Reported
report rule R L r = cond (lengths_right L) (cond (has_named R) (telling 0 0 R L) (telling_of (report_on rule R (fresh L).left r))) (telling 1 0 R L)
