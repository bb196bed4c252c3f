-- THE FIGURES FIT THE BOOKS. Entry by entry what is granted, opened and ended is followed by Held; a stop before an entry leaves figures and
-- tables. A recording starts on a ledger with nothing granted and no escrow, and a month adds up its recordings until a figure is named.
use mathlib.Core.Path.{◌≡◌, refl, sym, ◌∙◌, subst}
use mathlib.Core.List.{List, [], ◌∷◌}
use mathlib.Core.Bool.{Bool, true, false, true≢false}
use Prim.Native.Nat.{ℕ, suc, ◌+◌, ◌-◌}
use native.Mathlib.Omega.{arith}
use lib.ListN.{get_or, take}
use lib.Dec.{eqb}
use Rattle.rules.specs.Limits.{GRANTED, ESCROWS, GRANTED_SUM}
use Rattle.rules.specs.Ledger.{Ledger, Outcome, head, escrow_count}
use Rattle.rules.specs.Sound.{Ready}
use Rattle.rules.specs.Submit.{submit}
use Rattle.rules.specs.Recording.{Entry, entries_of, records_of}
use Rattle.rules.specs.Replay.{Next, on, stop_before, Gone, gone, further, through}
use Rattle.rules.specs.Report.{Grid, Report, report_of, has_named, Line, line_of, adds_of, tallied, passing, stopped, Reading, reading, reported, report_on, Reported, telling_of, report}
use Rattle.rules.specs.Month.{Lending, AllLent, month, held_by, opened_from, ended_in}
use Rattle.rules.specs.Month.{FitsBooks, ReportFitsBooks, MonthFits, MonthFitsBooks}
use Rattle.rules.specs.Promises.{Lent, started}
use Rattle.rules.proofs.Bools.{cond_case}
use Rattle.rules.proofs.Rows.{zeros}
use Rattle.rules.proofs.Counts.{sum_none}
use Rattle.rules.proofs.Demand12.{fresh_case}
use Rattle.rules.proofs.Lengths.{lengths_submit, lent_started, lent_stays}
use Rattle.rules.proofs.Ready.{ready_fresh, ready_stays}
use Rattle.rules.proofs.Held.{granted_submit, held_submit}
use Rattle.rules.proofs.Tallies.{report_is}
use Rattle.rules.proofs.Month.{month_named}

-- ---- entries, one after the other

-- some of the entries es were read, from this reading and this ledger on, and what they granted, opened and ended is in the figures and the tables
record Follows (k : Reading) (L : Ledger) (es : List Entry) (g : Gone Reading) : Type 0 where
  read : ℕ
  entries : g.found.entries ≡ k.entries + read
  granted : get_or g.found.report.figures GRANTED_SUM 0 + head L GRANTED ≡ get_or k.report.figures GRANTED_SUM 0 + head g.left GRANTED
  opened : ended_in g.found.report + held_by g.left ≡ ended_in k.report + held_by L + opened_from L (records_of (take read es))

-- none is read, and the figures stay
stays : (k : Reading) (L : Ledger) (es : List Entry) (grid : Grid) (named : List ℕ)
    → Follows k L es (gone (reading (report_of grid k.report.figures named) k.entries) L)
stays k L es grid named = record { read = 0; entries = omega arith; granted = refl; opened = omega arith }

-- an entry is read and counted, and then others
counts : (e : Entry) (es : List Entry) (k : Reading) (L : Ledger) → Lent L → Ready L → (g : Gone Reading)
    → Follows (reading (tallied k.report (line_of L e.bytes (submit L e.bytes))) (k.entries + 1)) (submit L e.bytes).left es g
    → Follows k L (e ∷ es) g
unfolding tallied adds_of
counts e es k L lent ready g f = record {
  read = suc f.read;
  entries = omega (arith, f.entries);
  granted = omega (arith, f.granted, granted_submit L lent.header lent.escrow ready e.bytes);
  opened = omega (arith, f.opened, held_submit L lent.header lent.escrow ready e.bytes);
}

follows : (es : List Entry) (k : Reading) (L : Ledger) → Lent L → Ready L → Follows k L es (through submit reported (λ x. x) k L es)
unfolding through reported stopped
follows [] k L lent ready = stays k L [] k.report.grid k.report.named
follows (e ∷ es) k L lent ready =
    let o : Outcome = submit L e.bytes in
    let l : Line = line_of L e.bytes o in
    cond_case (λ (next : Next Reading Reading). Follows k L (e ∷ es) (further (λ a. through submit reported (λ x. x) a o.left es) L o.left next))
    (eqb (passing k.report l) 0) (on (reading (tallied k.report l) (k.entries + 1))) (stop_before (reading (stopped k.report l) k.entries))
    (λ z. counts e es k L lent ready _ (follows es _ o.left (lent_stays (lengths_submit L e.bytes) lent)
    (ready_stays L lent.header lent.escrow ready e.bytes)))
    (λ z. stays k L (e ∷ es) _ _)

-- ---- a recording

-- every word of its header but the edition is 0 at the start: nothing is granted yet, and nothing held
none_yet : (L : Ledger) → Lent L → (k : ℕ) → head (started L) (suc k) ≡ 0
none_yet L lent k =
    fresh_case (λ (o : Outcome). head o.left (suc k) ≡ 0) L (λ e. zeros (L.edition.header - 1) k) (λ e. absurd (true≢false (sym lent.lengths ∙ e)))

none_held : (L : Ledger) → escrow_count L ≡ 0 → held_by L ≡ 0
unfolding held_by
none_held L e = rw e (sum_none _)

-- of any report that has named nothing
fits_unnamed : (L : Ledger) → Lent L → (R : Report) → has_named R ≡ false → (r : List ℕ) → FitsBooks R L r (report submit R L r)
fits_unnamed L lent R unnamed r = subst (FitsBooks R L r) (sym (report_is submit R L r lent.lengths unnamed)) fits
  where
    g : Gone Reading
    g = report_on submit R (started L) r

    f : Follows (reading R 0) (started L) (entries_of r) g
    f = unfold report_on in follows (entries_of r) (reading R 0) (started L) (lent_started L lent) (ready_fresh L lent)

    fits : FitsBooks R L r (telling_of g)
    fits = record {
      granted = omega (arith, f.granted, none_yet L lent (GRANTED - 1));
      opened =
          let n : g.found.entries ≡ f.read = omega (arith, f.entries) in
          subst (λ (k : ℕ). ended_in g.found.report + held_by g.left ≡ ended_in R + opened_from (started L) (records_of (take k (entries_of r)))) (sym n)
          (omega (arith, f.opened, none_held (started L) (none_yet L lent (ESCROWS - 1))));
    }

pub report_fits_books : ReportFitsBooks
report_fits_books L lent R fresh_report r = fits_unnamed L lent R fresh_report.unnamed r

-- ---- a month

month_fits : (ms : List Lending) → AllLent ms → (R : Report) → MonthFits R ms (month R ms)
month_fits [] lent R = record { granted = omega arith; opened = omega arith }
month_fits (m ∷ ms) lent R = go (has_named R) refl (month_fits ms lent.1 (report submit R m.tables m.recording).report)
  where
    x : Reported
    x = report submit R m.tables m.recording

    go : (b : Bool) → has_named R ≡ b → MonthFits x.report ms (month x.report ms) → MonthFits R (m ∷ ms) (month x.report ms)
    go true h more = subst (MonthFits R (m ∷ ms)) (sym (month_named (m ∷ ms) R h)) (record { granted = rw h (omega arith); opened = rw h (omega arith) })
    go false h more =
        let one = fits_unnamed m.tables lent.0 R h m.recording in
        record { granted = rw h (omega (arith, one.granted, more.granted)); opened = rw h (omega (arith, one.opened, more.opened)) }

pub month_fits_books : MonthFitsBooks
month_fits_books ms lent R fresh_report = month_fits ms lent R
