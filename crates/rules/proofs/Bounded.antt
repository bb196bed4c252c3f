-- NO FIGURE OF A REPORT PASSES 2^64 - 1. Where no place of a list is named, none of its numbers passes (Past). So a line that is tallied leaves
-- every figure and its own cell within, and the other cells as they were; a stop leaves all of them. By the fold's own recursion a recording does,
-- and a month does by one recording after the other. Nothing is asked of the tables, of the rule or of the grid's shape: a cell that the grid does not
-- have is 0, before and after.
use mathlib.Core.Path.{◌≡◌}
use mathlib.Core.List.{List, [], ◌∷◌}
use Prim.Native.Nat.{ℕ, zero, suc, ◌+◌, ◌≤◌, ◌<◌}
use native.Mathlib.Decide.{ℕ_discrete}
use native.Mathlib.Omega.{arith}
use lib.ListN.{get_or, set, get_or-append}
use lib.Dec.{eqb}
use borrow.Author.Tests.{eqb-true}
use Rattle.rules.specs.Limits.{LAST_FIGURE, FIGURES}
use Rattle.rules.specs.Ledger.{Ledger, lengths_right, fresh}
use Rattle.rules.specs.Submit.{submit}
use Rattle.rules.specs.Recording.{Entry, entries_of}
use Rattle.rules.specs.Replay.{Rule, Next, on, stop_before, further, through}
use Rattle.rules.specs.Report.{Grid, cell, raised, Report, has_named, Line, line_of, sums, would_be, tallied, passing, stopped}
use Rattle.rules.specs.Report.{Reading, reading, reported, report_on, Reported, report}
use Rattle.rules.specs.Month.{Bounded, NeverPasses}
use Rattle.rules.proofs.Bools.{cond_case}
use Rattle.rules.proofs.Grid.{raised_row, raised_column}
use Rattle.rules.proofs.Past.{past_none}
use Rattle.rules.proofs.Tallies.{figure_more}

-- ---- no place is named: none passes

pub passing_none : (R : Report) (l : Line) → passing R l ≡ 0
    → ((k : ℕ) → k < FIGURES → get_or R.figures k 0 + get_or l.adds k 0 ≤ LAST_FIGURE) × (cell R.grid l.row l.column + 1 ≤ LAST_FIGURE)
unfolding passing
passing_none R l none =
    let figures = sums R.figures l.adds in
    let more = (cell R.grid l.row l.column + 1) ∷ [] in
    let at = past_none 1 (would_be R l) (omega arith) none in
    ((λ k h. omega (arith, figure_more R.figures l.adds k h, get_or-append figures more 0 k h, at k)), at FIGURES)

-- ---- a cell raised is at most one more, of the grid or not

set_at_most : (r : List ℕ) (j v : ℕ) → get_or (set r j v) j 0 ≤ v
set_at_most [] j v = omega arith
set_at_most (x ∷ r) zero v = omega arith
set_at_most (x ∷ r) (suc j) v = set_at_most r j v

raised_at_most : (g : Grid) (i j : ℕ) → cell (raised g i j) i j ≤ cell g i j + 1
raised_at_most [] i j = omega arith
raised_at_most (r ∷ g) zero j = set_at_most r j _
raised_at_most (r ∷ g) (suc i) j = raised_at_most g i j

raised_within : (g : Grid) (i j : ℕ) → ((row column : ℕ) → cell g row column ≤ LAST_FIGURE) → cell g i j + 1 ≤ LAST_FIGURE → (row column : ℕ)
    → cell (raised g i j) row column ≤ LAST_FIGURE
raised_within g i j within more row column = go (ℕ_discrete row i) (ℕ_discrete column j)
  where
    go : Dec (row ≡ i) → Dec (column ≡ j) → cell (raised g i j) row column ≤ LAST_FIGURE
    go (no r) c = omega (arith, raised_row g i j row column r, within row column)
    go (yes r) (no c) = omega (arith, raised_column g i j row column c, within row column)
    go (yes r) (yes c) = rw (r, c) (omega (arith, raised_at_most g i j, more))

-- ---- one line: tallied, or the stop before it

pub tallied_bounded : (R : Report) (l : Line) → passing R l ≡ 0 → Bounded R → Bounded (tallied R l)
unfolding tallied
tallied_bounded R l none b =
    let p = passing_none R l none in
    record {
      figures = λ k h. omega (arith, figure_more R.figures l.adds k h, p.0 k h);
      cells = raised_within R.grid l.row l.column b.cells p.1;
    }

pub stopped_bounded : (R : Report) (l : Line) → Bounded R → Bounded (stopped R l)
unfolding stopped
stopped_bounded R l b = record { figures = b.figures; cells = b.cells }

-- ---- a recording, and a month

through_bounded : (rule : Rule) (k : Reading) (L : Ledger) (es : List Entry) → Bounded k.report
    → Bounded (through rule reported (λ (j : Reading). j) k L es).found.report
unfolding through reported
through_bounded rule k L [] b = b
through_bounded rule k L (e ∷ es) b =
    let x = rule L e.bytes in
    let l = line_of L e.bytes x in
    cond_case
    (λ (n : Next Reading Reading). Bounded (further (λ (a : Reading). through rule reported (λ (j : Reading). j) a x.left es) L x.left n).found.report)
    (eqb (passing k.report l) 0) (on (reading (tallied k.report l) (k.entries + 1))) (stop_before (reading (stopped k.report l) k.entries))
    (λ p. through_bounded rule (reading (tallied k.report l) (k.entries + 1)) x.left es (tallied_bounded k.report l (eqb-true _ 0 p) b))
    (λ p. stopped_bounded k.report l b)

pub report_bounded : (rule : Rule) (R : Report) (L : Ledger) (r : List ℕ) → Bounded R → Bounded (report rule R L r).report
unfolding report report_on
report_bounded rule R L r b =
    cond_case (λ (x : Reported). Bounded x.report) (lengths_right L) _ _
    (λ right. cond_case (λ (x : Reported). Bounded x.report) (has_named R) _ _ (λ named. b)
    (λ unnamed. through_bounded rule (reading R 0) (fresh L).left (entries_of r) b))
    (λ wrong. b)

pub never_passes : NeverPasses
never_passes [] R b = b
never_passes (m ∷ ms) R b = never_passes ms _ (report_bounded submit R m.tables m.recording b)
