-- THE PROMISES of document 02, request 3: what a report says of the entries that were read, of one recording and of a month of them. Their proofs
-- stand in proofs/, under the same names in small letters.
use Rattle.std.specs.Prelude.{◌≡◌, List, [], ◌∷◌, ◌++◌, true, false, cond, ◌&&◌, ℕ, ◌+◌, ◌≤◌, ◌<◌, get_or, length, take, drop, eqb}
use Rattle.rules.specs.Limits.{GRID_ROWS, ANSWERS, LAST_FIGURE, FIGURES, GRANTED_SUM, RELEASED_SUM, REFUNDED_SUM, EXPIRED_SUM}
use Rattle.rules.specs.Limits.{OPEN, GRANTED, ESCROW_AMOUNT, ESCROW_STATE, IS_OPEN}
use Rattle.rules.specs.Table.{sum}
use Rattle.rules.specs.Ledger.{Ledger, head, escrow, escrow_count}
use Rattle.rules.specs.Record.{read_of}
use Rattle.rules.specs.Submit.{submit}
use Rattle.rules.specs.Recording.{Entry, entries_of, records_of}
use Rattle.rules.specs.Replay.{ledger_after}
use Rattle.rules.specs.Report.{Grid, cell, Report, has_named, settled_of, Line, line_of, would_be, passing, Reported, report}
use Rattle.rules.specs.Promises.{Lent, started}

-- ---- What is spoken of

-- the lines of entries, submitted one after the other from a ledger on
abbrev pub lines_from : Ledger → List Entry → List Line
lines_from L [] = []
lines_from L (e ∷ es) = let o = submit L e.bytes in line_of L e.bytes o ∷ lines_from o.left es

-- of a recording: on tables started afresh
abbrev pub lines_of : Ledger → List ℕ → List Line
lines_of L r = lines_from (started L) (entries_of r)

-- how many lines are of this operation's row and this answer
abbrev pub in_cell : ℕ → ℕ → List Line → ℕ
in_cell row column [] = 0
in_cell row column (l ∷ ls) = cond (eqb l.row row && eqb l.column column) 1 0 + in_cell row column ls

-- what they add to a figure
abbrev pub in_figure : ℕ → List Line → ℕ
in_figure k [] = 0
in_figure k (l ∷ ls) = get_or l.adds k 0 + in_figure k ls

-- all cells of a grid together
abbrev pub row_total : List ℕ → ℕ
row_total [] = 0
row_total (x ∷ xs) = x + row_total xs

abbrev pub total : Grid → ℕ
total [] = 0
total (r ∷ rs) = row_total r + total rs

-- a report as the code is lent it: a grid of all its rows and columns, and nothing named
pub record Open (R : Report) : Type 0 where
  pub rows : length R.grid ≡ GRID_ROWS
  pub columns : (row : ℕ) → row < GRID_ROWS → length (get_or R.grid row []) ≡ ANSWERS
  pub unnamed : has_named R ≡ false

-- ---- THE GRID'S SUM EQUALS THE ENTRIES READ, each cell is the number of entries of its operation and answer, and the figures are sums over what
-- each entry added

pub record Counts (R : Report) (ls : List Line) (S : Report) : Type 0 where
  pub sum : total S.grid ≡ total R.grid + length ls
  pub cells : (row column : ℕ) → cell S.grid row column ≡ cell R.grid row column + in_cell row column ls
  pub figures : (k : ℕ) → k < FIGURES → get_or S.figures k 0 ≡ get_or R.figures k 0 + in_figure k ls

-- n names the first of these numbers that passes 2^64 − 1, counted from 1: it passes, and none before it does
pub record NamesFirst (n : ℕ) (xs : List ℕ) : Type 0 where
  pub place : ℕ
  pub named : n ≡ place + 1
  pub passes : LAST_FIGURE < get_or xs place 0
  pub before : (k : ℕ) → k < place → get_or xs k 0 ≤ LAST_FIGURE

-- the line that a report stopped before: one of its figures, or its cell, would pass 2^64 - 1, and the first of them is named
pub record Stops (S : Report) (ls : List Line) : Type 0 where
  pub line : Line
  pub behind : List Line
  pub next : ls ≡ line ∷ behind
  pub named : S.named ≡ passing S line ∷ line.row ∷ line.column ∷ []
  pub passes : NamesFirst (passing S line) (would_be S line)

-- what a call says of the entries that it read: those before the stop, if it stopped, and else all whole ones; the tables are as after the last of
-- them
pub record Says (R : Report) (L : Ledger) (r : List ℕ) (x : Reported) : Type 0 where
  pub number : x.number ≡ 0
  pub within : x.entries ≤ length (entries_of r)
  pub counts : Counts R (take x.entries (lines_of L r)) x.report
  pub left : x.left ≡ ledger_after submit (started L) (records_of (take x.entries (entries_of r)))
  pub all : has_named x.report ≡ false → x.entries ≡ length (entries_of r)
  pub stops : has_named x.report ≡ true → Stops x.report (drop x.entries (lines_of L r))

abbrev pub ReportSays : Type 0
ReportSays = (L : Ledger) → Lent L → (R : Report) → Open R → (r : List ℕ) → Says R L r (report submit R L r)

-- ---- A month: recordings one after the other, each with tables that are lent for it

pub record Lending : Type 0 where
  pub tables : Ledger
  pub recording : List ℕ

abbrev pub month : Report → List Lending → Report
month R [] = R
month R (m ∷ ms) = month (report submit R m.tables m.recording).report ms

abbrev pub AllLent : List Lending → Type 0
AllLent [] = Unit {0}
AllLent (m ∷ ms) = Lent m.tables × AllLent ms

-- all lines of a month, and the ledgers that its calls left, as long as nothing was named
abbrev pub lines_in : List Lending → List Line
lines_in [] = []
lines_in (m ∷ ms) = lines_of m.tables m.recording ++ lines_in ms

abbrev pub left_in : Report → List Lending → List Ledger
left_in R [] = []
left_in R (m ∷ ms) = cond (has_named R) [] (let x = report submit R m.tables m.recording in x.left ∷ left_in x.report ms)

-- how many entries were read, with what is said of them: all whole ones, or those before the stop
pub record SaysMonth (R : Report) (ms : List Lending) (S : Report) : Type 0 where
  pub entries : ℕ
  pub within : entries ≤ length (lines_in ms)
  pub counts : Counts R (take entries (lines_in ms)) S
  pub all : has_named S ≡ false → entries ≡ length (lines_in ms)
  pub stops : has_named S ≡ true → Stops S (drop entries (lines_in ms))

abbrev pub MonthSays : Type 0
MonthSays = (ms : List Lending) → AllLent ms → (R : Report) → Open R → SaysMonth R ms (month R ms)

-- ---- NO FIGURE PASSES 2^64 − 1: a report brought along whose figures and cells are 64-bit numbers is given back so, and so is a month's, whatever
-- tables are lent and whatever it has named

pub record Bounded (R : Report) : Type 0 where
  pub figures : (k : ℕ) → k < FIGURES → get_or R.figures k 0 ≤ LAST_FIGURE
  pub cells : (row column : ℕ) → cell R.grid row column ≤ LAST_FIGURE

abbrev pub NeverPasses : Type 0
NeverPasses = (ms : List Lending) (R : Report) → Bounded R → Bounded (month R ms)

-- ---- THE FIGURES FIT THE BOOKS

-- what is still held: the amounts of the open escrows
unfoldable pub held_by : Ledger → ℕ
held_by L = sum (escrow_count L) (λ i. cond (eqb (escrow L i ESCROW_STATE) IS_OPEN) (escrow L i ESCROW_AMOUNT) 0)

-- what was opened by records, submitted one after the other from a ledger on: the amounts of the opens that settled
abbrev pub opened_from : Ledger → List (List ℕ) → ℕ
opened_from L [] = 0
opened_from L (b ∷ bs) = let o = submit L b in settled_of OPEN (read_of b).submission o.number + opened_from o.left bs

-- the credits of escrows that ended
abbrev pub ended_in : Report → ℕ
ended_in R = get_or R.figures RELEASED_SUM 0 + get_or R.figures REFUNDED_SUM 0 + get_or R.figures EXPIRED_SUM 0

-- granted is the granted total of the recording's ledger; released, refunded, expired and what is still held are what was opened
pub record FitsBooks (R : Report) (L : Ledger) (r : List ℕ) (x : Reported) : Type 0 where
  pub granted : get_or x.report.figures GRANTED_SUM 0 ≡ get_or R.figures GRANTED_SUM 0 + head x.left GRANTED
  pub opened :
      ended_in x.report + held_by x.left ≡ ended_in R + opened_from (started L) (records_of (take x.entries (entries_of r)))

abbrev pub ReportFitsBooks : Type 0
ReportFitsBooks = (L : Ledger) → Lent L → (R : Report) → Open R → (r : List ℕ) → FitsBooks R L r (report submit R L r)

-- added up over a month
abbrev pub granted_in : List Ledger → ℕ
granted_in [] = 0
granted_in (L ∷ Ls) = head L GRANTED + granted_in Ls

abbrev pub held_in : List Ledger → ℕ
held_in [] = 0
held_in (L ∷ Ls) = held_by L + held_in Ls

abbrev pub opened_in : Report → List Lending → ℕ
opened_in R [] = 0
opened_in R (m ∷ ms) =
    cond (has_named R) 0
    (let x = report submit R m.tables m.recording in
    opened_from (started m.tables) (records_of (take x.entries (entries_of m.recording))) + opened_in x.report ms)

pub record MonthFits (R : Report) (ms : List Lending) (S : Report) : Type 0 where
  pub granted : get_or S.figures GRANTED_SUM 0 ≡ get_or R.figures GRANTED_SUM 0 + granted_in (left_in R ms)
  pub opened : ended_in S + held_in (left_in R ms) ≡ ended_in R + opened_in R ms

abbrev pub MonthFitsBooks : Type 0
MonthFitsBooks = (ms : List Lending) → AllLent ms → (R : Report) → Open R → MonthFits R ms (month R ms)
