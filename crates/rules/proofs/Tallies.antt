-- WHAT A REPORT SAYS of the entries of a recording that were read. One line tallied raises its cell and adds to the figures, and lines behind each
-- other add up; by the fold's own recursion so do those of the entries read, and the stop is before the first whose line would pass a figure. A
-- call is that fold on tables started afresh, or it leaves the report.
use mathlib.Core.Path.{◌≡◌, refl, sym, ap, ◌∙◌}
use mathlib.Core.List.{List, [], ◌∷◌, ◌++◌}
use mathlib.Core.Bool.{true, false, not, true≢false, ◌&&◌}
use Prim.Native.Nat.{ℕ, zero, suc, ◌+◌, ◌≤◌, ◌<◌}
use native.Mathlib.Omega.{arith}
use lib.ListN.{get_or, length, take, drop, replicate, length-append, get_or-replicate}
use lib.Dec.{eqb, leb}
use borrow.Author.Tests.{leb-true, eqb-false}
use Rattle.rules.specs.Limits.{LAST_OPERATION, GRID_ROWS, ANSWERS, FIGURES}
use Rattle.rules.specs.Ledger.{Ledger, lengths_right}
use Rattle.rules.specs.Record.{decode, in_form}
use Rattle.rules.specs.Submit.{submit}
use Rattle.rules.specs.Recording.{Entry, entries_of, records_of}
use Rattle.rules.specs.Replay.{Rule, Next, on, stop_before, Gone, gone, further, through, ledger_after}
use Rattle.rules.specs.Report.{Report, report_of, blank_report, has_named, grid_row, Line, line_of, sums, tallied, passing, stopped}
use Rattle.rules.specs.Report.{Reading, reading, reported, report_on, Reported, telling_of, report}
use Rattle.rules.specs.Promises.{Lent, started}
use Rattle.rules.specs.Month.{lines_from, in_cell, in_figure, Open, Counts, Stops, Says, ReportSays}
use Rattle.rules.specs.declared.Form.TheVariants.{Today}
use Rattle.rules.proofs.Bools.{and_fst, cond_case}
use Rattle.rules.proofs.Demand12.{on_the_list}
use Rattle.rules.proofs.Grid.{raised_total, raised_rows, raised_columns, raised_cell}
use Rattle.rules.proofs.Past.{passing_some}

-- ---- lines: one of each entry; and behind each other they add up

pub lines_length : (L : Ledger) (es : List Entry) → length (lines_from L es) ≡ length es
lines_length L [] = refl
lines_length L (e ∷ es) = ap suc (lines_length (submit L e.bytes).left es)

cell_append : (row column : ℕ) (ls ms : List Line) → in_cell row column (ls ++ ms) ≡ in_cell row column ls + in_cell row column ms
cell_append row column [] ms = omega arith
cell_append row column (l ∷ ls) ms = omega (arith, cell_append row column ls ms)

figure_append : (k : ℕ) (ls ms : List Line) → in_figure k (ls ++ ms) ≡ in_figure k ls + in_figure k ms
figure_append k [] ms = omega arith
figure_append k (l ∷ ls) ms = omega (arith, figure_append k ls ms)

-- none, whatever is named
pub counts_none : (R : Report) (named : List ℕ) → Counts R [] (report_of R.grid R.figures named)
counts_none R named = record { sum = omega arith; cells = λ row column. omega arith; figures = λ k h. omega arith }

pub counts_join : {R S T : Report} {ls ms : List Line} → Counts R ls S → Counts S ms T → Counts R (ls ++ ms) T
counts_join {ls} {ms} a b = record {
  sum = omega (arith, a.sum, b.sum, length-append ls ms);
  cells = λ row column. omega (arith, a.cells row column, b.cells row column, cell_append row column ls ms);
  figures = λ k h. omega (arith, a.figures k h, b.figures k h, figure_append k ls ms);
}

-- ---- one line

-- its cell is of the report's grid
pub record LineFits (R : Report) (l : Line) : Type 0 where
  pub row : l.row < length R.grid
  pub column : l.column < length (get_or R.grid l.row [])

pub row_listed : (op : ℕ) → grid_row op ≤ LAST_OPERATION
row_listed op =
    cond_case (λ (row : ℕ). row ≤ LAST_OPERATION) (leb op LAST_OPERATION && in_form Today op) op 0
    (λ e. leb-true op LAST_OPERATION (and_fst (leb op LAST_OPERATION) _ e)) (λ e. omega arith)

pub line_fits : (L : Ledger) (b : List ℕ) (R : Report) → Open R → LineFits R (line_of L b (submit L b))
line_fits L b R o =
    let r : grid_row (decode b).op ≤ LAST_OPERATION = row_listed (decode b).op in
    record { row = omega (arith, o.rows); column = omega (arith, o.columns (grid_row (decode b).op) (omega arith), on_the_list L b) }

pub figure_more : (figures adds : List ℕ) (k : ℕ) → k < FIGURES → get_or (sums figures adds) k 0 ≡ get_or figures k 0 + get_or adds k 0
figure_more figures adds zero h = refl
figure_more figures adds (suc zero) h = refl
figure_more figures adds (suc (suc zero)) h = refl
figure_more figures adds (suc (suc (suc zero))) h = refl
figure_more figures adds (suc (suc (suc (suc zero)))) h = refl
figure_more figures adds (suc (suc (suc (suc (suc k))))) h = absurd (omega arith)

pub counts_one : (R : Report) (l : Line) → LineFits R l → Counts R (l ∷ []) (tallied R l)
unfolding tallied
counts_one R l f = record {
  sum = raised_total R.grid l.row l.column f.row f.column;
  cells = λ row column. omega (arith, raised_cell R.grid l.row l.column f.row f.column row column);
  figures = λ k h. omega (arith, figure_more R.figures l.adds k h);
}

-- ---- open reports: one with nothing counted, and one with a line more

pub blank_open : Open blank_report
blank_open = record { rows = refl; columns = λ row h. ap length (get_or-replicate GRID_ROWS row (replicate ANSWERS 0) [] h); unnamed = refl }

pub open_stays : (R : Report) (l : Line) → Open R → Open (tallied R l)
unfolding tallied
open_stays R l o = record {
  rows = raised_rows R.grid l.row l.column ∙ o.rows;
  columns = λ row h. raised_columns R.grid l.row l.column row ∙ o.columns row h;
  unnamed = o.unnamed;
}

-- ---- the entries read: with this report and this many entries of the recording so far, from this ledger through these

pub record ReadsEntries (k : Reading) (L : Ledger) (es : List Entry) (g : Gone Reading) : Type 0 where
  pub count : ℕ
  pub entries : g.found.entries ≡ k.entries + count
  pub within : count ≤ length es
  pub counts : Counts k.report (take count (lines_from L es)) g.found.report
  pub left : g.left ≡ ledger_after submit L (records_of (take count es))
  pub all : has_named g.found.report ≡ false → count ≡ length es
  pub stops : has_named g.found.report ≡ true → Stops g.found.report (drop count (lines_from L es))
  pub opened : has_named g.found.report ≡ false → Open g.found.report

none_read : (k : Reading) (L : Ledger) → Open k.report → ReadsEntries k L [] (gone k L)
none_read k L o = record {
  count = 0;
  entries = omega arith;
  within = omega arith;
  counts = counts_none k.report k.report.named;
  left = refl;
  all = λ h. refl;
  stops = λ h. absurd (true≢false (sym h ∙ o.unnamed));
  opened = λ h. o;
}

-- an entry tallied, before others
one_tallied : (k : Reading) (L : Ledger) (e : Entry) (es : List Entry) (g : Gone Reading) → Open k.report
    → (let o = submit L e.bytes in ReadsEntries (reading (tallied k.report (line_of L e.bytes o)) (k.entries + 1)) o.left es g)
    → ReadsEntries k L (e ∷ es) g
one_tallied k L e es g o c = record {
  count = suc c.count;
  entries = omega (arith, c.entries);
  within = omega (arith, c.within);
  counts = counts_join (counts_one k.report _ (line_fits L e.bytes k.report o)) c.counts;
  left = c.left;
  all = λ h. ap suc (c.all h);
  stops = c.stops;
  opened = c.opened;
}

-- the stop before an entry
stopped_here : (k : Reading) (L : Ledger) (e : Entry) (es : List Entry)
    → (let l = line_of L e.bytes (submit L e.bytes) in
    eqb (passing k.report l) 0 ≡ false → ReadsEntries k L (e ∷ es) (gone (reading (stopped k.report l) k.entries) L))
unfolding stopped passing
stopped_here k L e es p =
    let l = line_of L e.bytes (submit L e.bytes) in
    record {
      count = 0;
      entries = omega arith;
      within = omega arith;
      counts = counts_none k.report _;
      left = refl;
      all = λ h. absurd (true≢false (ap not (sym p) ∙ h));
      stops = λ h. record { line = l; behind = _; next = refl; named = refl; passes = passing_some k.report l (eqb-false _ 0 p) };
      opened = λ h. absurd (true≢false (ap not (sym p) ∙ h));
    }

reads_through : (k : Reading) (L : Ledger) (es : List Entry) → Open k.report → ReadsEntries k L es (through submit reported (λ (j : Reading). j) k L es)
unfolding through reported
reads_through k L [] o = none_read k L o
reads_through k L (e ∷ es) o =
    let x = submit L e.bytes in
    let l = line_of L e.bytes x in
    cond_case
    (λ (n : Next Reading Reading). ReadsEntries k L (e ∷ es) (further (λ (a : Reading). through submit reported (λ (j : Reading). j) a x.left es) L x.left n))
    (eqb (passing k.report l) 0) (on (reading (tallied k.report l) (k.entries + 1))) (stop_before (reading (stopped k.report l) k.entries))
    (λ p. one_tallied k L e es _ o (reads_through (reading (tallied k.report l) (k.entries + 1)) x.left es (open_stays k.report l o)))
    (λ p. stopped_here k L e es p)

-- ---- the call

-- on tables of right lengths, with nothing named: the fold, on those tables started afresh
pub report_is : (rule : Rule) (R : Report) (L : Ledger) (r : List ℕ) → lengths_right L ≡ true → has_named R ≡ false
    → report rule R L r ≡ telling_of (report_on rule R (started L) r)
unfolding report
report_is rule R L r right unnamed = rw (right, unnamed)

-- a report that has named a figure is left as it is
pub report_named : (rule : Rule) (R : Report) (L : Ledger) (r : List ℕ) → has_named R ≡ true → (report rule R L r).report ≡ R
unfolding report
report_named rule R L r named = cond_case (λ (x : Reported). x.report ≡ R) (lengths_right L) _ _ (λ e. rw named) (λ e. refl)

pub reads_on : (R : Report) (L : Ledger) (r : List ℕ) → Open R → ReadsEntries (reading R 0) L (entries_of r) (report_on submit R L r)
unfolding report_on
reads_on R L r o = reads_through (reading R 0) L (entries_of r) o

says_so : (R : Report) (L : Ledger) (r : List ℕ) (g : Gone Reading) → ReadsEntries (reading R 0) (started L) (entries_of r) g → Says R L r (telling_of g)
says_so R L r g c =
    let n : c.count ≡ g.found.entries = omega (arith, c.entries) in
    record {
      number = refl;
      within = omega (arith, c.within);
      counts = rw n at c.counts;
      left = rw n at c.left;
      all = λ h. sym n ∙ c.all h;
      stops = λ h. rw n at (c.stops h);
    }

pub report_says : ReportSays
report_says L lent R o r = rw (report_is submit R L r lent.lengths o.unnamed) (says_so R L r _ (reads_on R (started L) r o))

-- and it leaves an open report open, if it names nothing
pub report_open : (L : Ledger) → Lent L → (R : Report) → Open R → (r : List ℕ) → has_named (report submit R L r).report ≡ false → Open (report submit R L r).report
report_open L lent R o r = rw (report_is submit R L r lent.lengths o.unnamed) (reads_on R (started L) r o).opened
