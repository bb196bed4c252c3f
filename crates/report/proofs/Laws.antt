-- The recording, entry by entry, over plain values: what was read so far, and that the next entry is counted, or stops the report.
use mathlib.Core.Path.{◌≡◌, refl, sym, ap, ◌∙◌, subst}
use mathlib.Core.Logic.{◌≢◌}
use mathlib.Core.List.{List}
use mathlib.Core.Bool.{Bool, true, false, cond}
use Prim.Native.Nat.{ℕ, ◌+◌, ◌-◌, ◌*◌, ◌<◌}
use native.Mathlib.Omega.{arith}
use lib.Dec.{eqb}
use lib.ListN.{get_or, length, take, drop, length-take, length-drop}
use borrow.Author.Tests.{eqb-false}
use Rattle.rules.specs.Limits.{RECORD_BYTES, ENTRY_BYTES}
use Rattle.rules.specs.Ledger.{Ledger, Sized}
use Rattle.rules.specs.Report.{Report, Line, line_of, tallied, passing, stopped, reading, reported, report_on, telling, telling_of}
use Rattle.rules.specs.Recording.{entry_at, whole_entries}
use Rattle.rules.specs.Sound.{Ready}
use Rattle.rules.specs.Submit.{submit}
use Rattle.rules.proofs.Ready.{ready_stays}
use Rattle.rules.proofs.Through.{bytes_read, Going, going_none, goes_on, stops_before, ends}
use Rattle.counting.specs.Turn.{Turned, turned, turn_by, turn}

-- a whole entry has the bytes of a record
pub part_length : (r : List ℕ) (k : ℕ) → k < whole_entries r
    → length (take (k * ENTRY_BYTES + RECORD_BYTES - k * ENTRY_BYTES) (drop (k * ENTRY_BYTES) r)) ≡ RECORD_BYTES
part_length r k h =
    omega (arith, length-take (k * ENTRY_BYTES + RECORD_BYTES - k * ENTRY_BYTES) (drop (k * ENTRY_BYTES) r), length-drop (k * ENTRY_BYTES) r)

-- k entries were read; this is the report so far, which has named nothing, and these tables are left, ready for the next entry
pub record Reporting (r : List ℕ) (begun : Report) (first : Ledger) (k : ℕ) (L : Ledger) (R : Report) : Type 0 where
  pub going : Going submit reported (λ x. x) r (report_on submit begun first r) k (reading R k) L
  pub ready : Ready L
  pub unnamed : get_or R.named 0 0 ≡ 0

pub reporting_none : (r : List ℕ) (R : Report) (L : Ledger) → Ready L → get_or R.named 0 0 ≡ 0 → Reporting r R L 0 L R
unfolding report_on
reporting_none r R L ready z = record { going = going_none submit reported (λ x. x) r (reading R 0) L; ready = ready; unnamed = z }

module _ (r : List ℕ) {begun : Report} {first : Ledger} (k : ℕ) {L : Ledger} {R : Report} (reporting : Reporting r begun first k L R) (h : k < whole_entries r) {R' : Report} {L' : Ledger} (given : turned R' L' ≡ turn R L (take (k * ENTRY_BYTES + RECORD_BYTES - k * ENTRY_BYTES) (drop (k * ENTRY_BYTES) r))) where
  abbrev b : List ℕ
  b = (entry_at r k).bytes

  abbrev line : Line
  line = line_of L b (submit L b)

  gives : turned R' L' ≡ turn_by R L (submit L b).left line
  unfolding turn
  gives = given ∙ ap (turn R L) (sym (bytes_read r k))

  -- counted, or stopped before it
  counted_so : eqb (passing R line) 0 ≡ true → turned R' L' ≡ turned (tallied R line) (submit L b).left
  counted_so t = gives ∙ ap (λ (x : Bool). cond x (turned (tallied R line) (submit L b).left) (turned (stopped R line) L)) t

  stopped_so : eqb (passing R line) 0 ≡ false → turned R' L' ≡ turned (stopped R line) L
  stopped_so f = gives ∙ ap (λ (x : Bool). cond x (turned (tallied R line) (submit L b).left) (turned (stopped R line) L)) f

  abbrev figure_in : Turned → ℕ
  figure_in x = get_or x.report.named 0 0

  -- which of them, the first word of what is named says
  pub one_more : Sized L.edition → get_or R'.named 0 0 ≡ 0 → Reporting r begun first (k + 1) L' R'
  one_more sized z = go (eqb (passing R line) 0) refl
    where
      go : (x : Bool) → eqb (passing R line) 0 ≡ x → Reporting r begun first (k + 1) L' R'
      go true t = subst (λ (x : Turned). Reporting r begun first (k + 1) x.left x.report) (sym (counted_so t)) (record {
        going = goes_on submit reported (λ x. x) r k reporting.going h (submit L b) (reading (tallied R line) (k + 1)) refl (unfold reported in rw t);
        ready = ready_stays L sized.header sized.escrow reporting.ready b;
        unnamed = unfold tallied in reporting.unnamed;
      })
      go false f = absurd (eqb-false (passing R line) 0 f (unfold stopped in (sym (ap figure_in (stopped_so f)) ∙ z)))

  pub stops_so : get_or R'.named 0 0 ≢ 0 → telling 0 k R' L' ≡ telling_of (report_on submit begun first r)
  stops_so n = go (eqb (passing R line) 0) refl
    where
      go : (x : Bool) → eqb (passing R line) 0 ≡ x → telling 0 k R' L' ≡ telling_of (report_on submit begun first r)
      go true t = absurd (n (ap figure_in (counted_so t) ∙ unfold tallied in reporting.unnamed))
      go false f =
          ap (λ (x : Turned). telling 0 k x.report x.left) (stopped_so f)
          ∙ ap telling_of (stops_before submit reported (λ x. x) r k reporting.going h (submit L b) (reading (stopped R line) k) refl (unfold reported in rw f))

pub all_read : (r : List ℕ) {begun : Report} {first : Ledger} (k : ℕ) {L : Ledger} {R : Report} → Reporting r begun first k L R → k ≡ whole_entries r
    → telling 0 (whole_entries r) R L ≡ telling_of (report_on submit begun first r)
all_read r k {L} {R} reporting h =
    ap (λ (n : ℕ). telling 0 n R L) (sym h) ∙ ap telling_of (ends submit reported (λ x. x) r k reporting.going (omega arith))
