-- A report on tables started afresh, over plain values: what was tested decides whether anything is read.
use mathlib.Core.Path.{◌≡◌, sym, ap, ◌∙◌, subst}
use mathlib.Core.Logic.{◌≢◌}
use mathlib.Core.List.{List}
use mathlib.Core.Bool.{Bool, true, false, not}
use Prim.Native.Nat.{ℕ}
use lib.ListN.{get_or}
use borrow.Author.Tests.{eq-eqb, ne_eqb}
use Rattle.rules.specs.Ledger.{Ledger, Outcome, outcome, Sized, lengths_right, fresh}
use Rattle.rules.specs.Report.{Report, Reported, has_named, telling, telling_of, report_on, report}
use Rattle.rules.specs.Sound.{Ready}
use Rattle.rules.specs.Submit.{submit}
use Rattle.rules.proofs.Bools.{not_true_false, not_false_true}
use Rattle.rules.proofs.Ready.{ready_fresh}
use Rattle.rules.proofs.Tallies.{report_is}

module _ (L : Ledger) {right : Bool} (tested : right ≡ lengths_right L) where
  is_wrong : not right ≡ true → lengths_right L ≡ false
  is_wrong t = sym tested ∙ not_true_false right t

  is_right : not right ≡ false → lengths_right L ≡ true
  is_right t = sym tested ∙ not_false_true right t

  -- started, the tables are ready for the first entry
  pub ready_first : not right ≡ false → {left : Ledger} {x : ℕ} → outcome x 0 left ≡ fresh L → Sized L.edition → Ready left
  ready_first t e sized =
      subst (λ (o : Outcome). Ready o.left) (sym e)
      (ready_fresh L (record { lengths = is_right t; header = sized.header; escrow = sized.escrow }))

  module _ (R : Report) (r : List ℕ) where
    -- tables of a wrong length
    pub wrong_length : not right ≡ true → telling 1 0 R L ≡ report submit R L r
    unfolding report
    wrong_length t = rw (is_wrong t)

    -- a report that has named a figure stays as it is, and so do the tables
    pub had_stopped : not right ≡ false → get_or R.named 0 0 ≢ 0 → telling 0 0 R L ≡ report submit R L r
    unfolding report
    had_stopped t n = rw (is_right t, ne_eqb (get_or R.named 0 0) 0 n)

    pub read_on : not right ≡ false → {left : Ledger} {x : ℕ} {y : Reported} → outcome x 0 left ≡ fresh L → get_or R.named 0 0 ≡ 0
        → y ≡ telling_of (report_on submit R left r) → y ≡ report submit R L r
    read_on t e z g =
        let w : has_named R ≡ false = ap not (eq-eqb (get_or R.named 0 0) 0 z) in
        g ∙ ap (λ (o : Outcome). telling_of (report_on submit R o.left r)) e ∙ sym (report_is submit R L r (is_right t) w)
