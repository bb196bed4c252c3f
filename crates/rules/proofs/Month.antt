-- WHAT A MONTH'S REPORT SAYS: of one recording after the other, by what a call says of each (Tallies). As long as nothing is named the lines of a
-- recording stand before those of the recordings behind it; once a figure is named, further calls leave the report, and the lines behind are not
-- looked at.
use mathlib.Core.Path.{◌≡◌, refl, sym, ap, ◌∙◌}
use mathlib.Core.List.{List, [], ◌∷◌, ◌++◌}
use mathlib.Core.Bool.{Bool, true, false, true≢false}
use Prim.Native.Nat.{◌+◌, ◌≤◌}
use native.Mathlib.Omega.{arith}
use lib.ListN.{length, length-append}
use lib.Seq.{take_all, take-append-le, take-append-add, drop-append-le, drop-append-add}
use Rattle.rules.specs.Submit.{submit}
use Rattle.rules.specs.Recording.{entries_of}
use Rattle.rules.specs.Report.{Report, has_named, Line, Reported, report}
use Rattle.rules.specs.Promises.{started}
use Rattle.rules.specs.Month.{lines_of, Open, Stops, Says, Lending, month, lines_in, SaysMonth, MonthSays}
use Rattle.rules.proofs.Tallies.{lines_length, counts_none, counts_join, report_named, report_says, report_open}

-- ---- once a figure is named

pub month_named : (ms : List Lending) (R : Report) → has_named R ≡ true → month R ms ≡ R
month_named [] R named = refl
month_named (m ∷ ms) R named = ap (λ (S : Report). month S ms) (report_named submit R m.tables m.recording named) ∙ month_named ms R named

stops_more : {S : Report} {ls : List Line} (ms : List Line) → Stops S ls → Stops S (ls ++ ms)
stops_more ms s = record {
  line = s.line;
  behind = s.behind ++ ms;
  next = ap (λ (l : List Line). l ++ ms) s.next;
  named = s.named;
  passes = s.passes;
}

-- ---- a recording, and those behind it

module _ {R : Report} (m : Lending) (ms : List Lending) (x : Reported) (says : Says R m.tables m.recording x) where
  abbrev lines : List Line
  lines = lines_of m.tables m.recording

  entries_lines : length lines ≡ length (entries_of m.recording)
  entries_lines = lines_length (started m.tables) (entries_of m.recording)

  ends_in : has_named x.report ≡ true → SaysMonth R (m ∷ ms) x.report
  ends_in named =
      let fits : x.entries ≤ length lines = omega (arith, entries_lines, says.within) in
      record {
        entries = x.entries;
        within = omega (arith, length-append lines (lines_in ms));
        counts = rw (take-append-le x.entries lines (lines_in ms) fits) says.counts;
        all = λ h. absurd (true≢false (sym named ∙ h));
        stops = λ h. rw (drop-append-le x.entries lines (lines_in ms) fits) (stops_more (lines_in ms) (says.stops h));
      }

  goes_behind : {S : Report} → has_named x.report ≡ false → SaysMonth x.report ms S → SaysMonth R (m ∷ ms) S
  goes_behind unnamed rest =
      let whole : length lines ≤ x.entries = omega (arith, entries_lines, says.all unnamed) in
      record {
        entries = length lines + rest.entries;
        within = omega (arith, length-append lines (lines_in ms), rest.within);
        counts = rw (take-append-add lines (lines_in ms) rest.entries) (counts_join (rw (take_all x.entries lines whole) at says.counts) rest.counts);
        all = λ h. omega (arith, length-append lines (lines_in ms), rest.all h);
        stops = λ h. rw (drop-append-add lines (lines_in ms) rest.entries) (rest.stops h);
      }

pub month_says : MonthSays
month_says [] lent R o = record {
  entries = 0;
  within = omega arith;
  counts = counts_none R R.named;
  all = λ h. refl;
  stops = λ h. absurd (true≢false (sym h ∙ o.unnamed));
}
month_says (m ∷ ms) lent R o = go (has_named x.report) refl (month_says ms lent.1 x.report)
  where
    x : Reported
    x = report submit R m.tables m.recording

    says : Says R m.tables m.recording x
    says = report_says m.tables lent.0 R o m.recording

    go : (b : Bool) → has_named x.report ≡ b → (Open x.report → SaysMonth x.report ms (month x.report ms)) → SaysMonth R (m ∷ ms) (month x.report ms)
    go true named rest = rw (month_named ms x.report named) (ends_in m ms x says named)
    go false unnamed rest = goes_behind m ms x says unnamed (rest (report_open m.tables lent.0 R o m.recording unnamed))
