-- A report is a start afresh and then submissions, as many as entries were read: it leaves what those calls leave, and what was submitted in it
-- with which answers, as the rules give them for the records read, is what they were answered. By the fold's own recursion: an entry that is
-- counted is one submission, and the one that a report stops before is none. A report that had stopped before is no call at all.
use mathlib.Core.Path.{◌≡◌, refl, sym, ap, ap₂, ◌∙◌}
use mathlib.Core.Logic.{◌⊎◌, inl, inr}
use mathlib.Core.List.{List, [], ◌∷◌}
use mathlib.Core.Bool.{Bool, true, false, cond, true≢false}
use Prim.Native.Nat.{ℕ, zero, suc, ◌+◌}
use native.Mathlib.Omega.{arith}
use lib.ListN.{take}
use lib.Dec.{eqb}
use Rattle.rules.specs.Ledger.{Ledger, Outcome, lengths_right, fresh}
use Rattle.rules.specs.Submit.{submit}
use Rattle.rules.specs.Recording.{Entry, as_entry, entries_of, records_of}
use Rattle.rules.specs.Replay.{Next, on, stop_before, Gone, further, through, recorded_from}
use Rattle.rules.specs.Report.{Report, has_named, tallied, passing, stopped, Reading, reading, reported, report_on, Reported, telling, telling_of, report}
use Rattle.rules.specs.History.{Call, starts_afresh, Event, begun, after, said}
use Rattle.rules.specs.Promises.{started}
use Rattle.rules.specs.Runs.{events, read_in}
use Rattle.rules.proofs.Bools.{cond_case}
use Rattle.rules.proofs.Heard.{answered_on}
use Rattle.rules.proofs.Demand12.{fresh_zero, fresh_wrong}
use Rattle.rules.proofs.Replays.{submissions, heard_so}

-- the first n entries with the answers of the rules are those submissions with theirs
answered_so : (L : Ledger) (n : ℕ) (es : List Entry) → recorded_from submit L (records_of (take n es)) ≡ answered_on L (submissions n es)
answered_so L zero es = refl
answered_so L (suc n) [] = refl
answered_so L (suc n) (e ∷ es) =
    let o : Outcome = submit L e.bytes in ap (λ (l : List Entry). as_entry e.bytes o.number o.word ∷ l) (answered_so o.left n es)

-- ---- from n entries on that were read

record AsCalls (L : Ledger) (n : ℕ) (es : List Entry) (g : Gone Reading) : Type 0 where
  count : ℕ
  entries : g.found.entries ≡ n + count
  left : g.left ≡ after L (submissions count es)

-- whatever is kept of the report
as_calls : (k : Reading) (L : Ledger) (es : List Entry) → AsCalls L k.entries es (through submit reported (λ (k : Reading). k) k L es)
unfolding through reported
as_calls k L [] = record { count = 0; entries = omega arith; left = refl }
as_calls k L (e ∷ es) =
    let o : Outcome = submit L e.bytes in
    cond_case
    (λ (x : Next Reading Reading).
    AsCalls L k.entries (e ∷ es) (further (λ (k : Reading). through submit reported (λ (k : Reading). k) k o.left es) L o.left x))
    (eqb (passing k.report _) 0) (on (reading (tallied k.report _) (k.entries + 1))) (stop_before (reading (stopped k.report _) k.entries))
    (λ counted.
    let c = as_calls (reading (tallied k.report _) (k.entries + 1)) o.left es in
    record { count = suc c.count; entries = omega (arith, c.entries); left = c.left })
    (λ stops. record { count = 0; entries = omega arith; left = refl })

-- ---- the report

-- one that had not stopped before
pub record Reads (L : Ledger) (r : List ℕ) (x : Reported) : Type 0 where
  pub number : x.number ≡ (fresh L).number
  pub left : x.left ≡ after L (starts_afresh ∷ submissions x.entries (entries_of r))
  pub submitted : read_in L x.entries r ≡ answered_on L (starts_afresh ∷ submissions x.entries (entries_of r))

-- one that had
pub record HadStopped (R : Report) (L : Ledger) (x : Reported) : Type 0 where
  pub entries : x.entries ≡ 0
  pub report : x.report ≡ R
  pub left : x.left ≡ L

reads_on : (L : Ledger) (r : List ℕ) → (fresh L).number ≡ 0 → (g : Gone Reading) → AsCalls (started L) 0 (entries_of r) g → Reads L r (telling_of g)
reads_on L r z g c =
    let k : c.count ≡ g.found.entries = omega (arith, c.entries) in
    record {
      number = sym z;
      left = c.left ∙ ap (λ (n : ℕ). after (started L) (submissions n (entries_of r))) k;
      submitted = answered_so (started L) g.found.entries (entries_of r);
    }

-- tables of a wrong length: nothing is read
wrong_length : (R : Report) (L : Ledger) (r : List ℕ) → lengths_right L ≡ false → Reads L r (telling 1 0 R L)
wrong_length R L r wrong =
    let o = sym (fresh_wrong L wrong) in
    record { number = ap (λ (o : Outcome). o.number) o; left = ap (λ (o : Outcome). o.left) o; submitted = refl }

-- what holds of each of the three ways is true of the call
report_case : (P : Reported → Type 0) (R : Report) (L : Ledger) (r : List ℕ) → (has_named R ≡ true → P (telling 0 0 R L))
    → (lengths_right L ≡ true → has_named R ≡ false → P (telling_of (report_on submit R (started L) r)))
    → (lengths_right L ≡ false → P (telling 1 0 R L)) → P (report submit R L r)
unfolding report
report_case P R L r f g h =
    cond_case P (lengths_right L) (cond (has_named R) (telling 0 0 R L) (telling_of (report_on submit R (started L) r))) (telling 1 0 R L)
    (λ right. cond_case P (has_named R) (telling 0 0 R L) (telling_of (report_on submit R (started L) r)) f (g right)) h

pub reads : (R : Report) (L : Ledger) (r : List ℕ) → has_named R ≡ false → Reads L r (report submit R L r)
unfolding report_on
reads R L r unnamed =
    report_case (Reads L r) R L r (λ named. absurd (true≢false (sym named ∙ unnamed)))
    (λ right f. reads_on L r (fresh_zero L right) _ (as_calls (reading R 0) (started L) (entries_of r))) (wrong_length R L r)

pub had_stopped : (R : Report) (L : Ledger) (r : List ℕ) → has_named R ≡ true → HadStopped R L (report submit R L r)
had_stopped R L r named =
    report_case (HadStopped R L) R L r (λ t. record { entries = refl; report = refl; left = refl }) (λ right f. absurd (true≢false (sym named ∙ f)))
    (λ wrong. record { entries = refl; report = refl; left = refl })

-- its answer: 0, or 1 with all as it was
pub report_answers : (R : Report) (L : Ledger) (r : List ℕ) → let x = report submit R L r in
    (x.number ≡ 0) ⊎ ((x.number ≡ 1) × (x.entries ≡ 0) × (x.report ≡ R) × (x.left ≡ L))
report_answers R L r =
    report_case (λ (x : Reported). (x.number ≡ 0) ⊎ ((x.number ≡ 1) × (x.entries ≡ 0) × (x.report ≡ R) × (x.left ≡ L))) R L r (λ named. inl refl)
    (λ right unnamed. inl refl) (λ wrong. inr (refl, refl, refl, refl))

-- ---- as calls, either way

abbrev pub report_calls : Report → List ℕ → ℕ → List Call
report_calls R r n = cond (has_named R) [] (starts_afresh ∷ submissions n (entries_of r))

pub record Reports (R : Report) (L : Ledger) (r : List ℕ) (x : Reported) : Type 0 where
  pub left : x.left ≡ after L (report_calls R r x.entries)
  pub heard : cond (has_named R) [] (begun x.number ∷ events (read_in L x.entries r)) ≡ said L (report_calls R r x.entries)
  pub submitted : read_in L x.entries r ≡ answered_on L (report_calls R r x.entries)

pub reports : (R : Report) (L : Ledger) (r : List ℕ) → Reports R L r (report submit R L r)
reports R L r = go (has_named R) refl
  where
    x : Reported
    x = report submit R L r

    go : (b : Bool) → has_named R ≡ b → Reports R L r (report submit R L r)
    go true named =
        let s : HadStopped R L x = had_stopped R L r named in
        record {
          left = rw named s.left;
          heard = rw named refl;
          submitted = rw (named, s.entries) refl;
        }
    go false unnamed =
        let a : Reads L r x = reads R L r unnamed in
        record {
          left = rw unnamed a.left;
          heard = rw unnamed (ap₂ (λ (n : ℕ) (l : List Event). begun n ∷ l) a.number (ap events a.submitted ∙ heard_so (started L) x.entries (entries_of r)));
          submitted = rw unnamed a.submitted;
        }
