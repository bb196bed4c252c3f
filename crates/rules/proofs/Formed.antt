-- The named lists of tests of a record and of its fields, as facts by name: a record that is read has the length and the mark and is
-- well-formed; a well-formed one has an operation of 1 to 12 but not 8, and a signer exactly if it is no sweep. Of the tests of the fields, those
-- that a proof asks for. The place of a test in its list stands here and nowhere else.
use mathlib.Core.Path.{◌≡◌, subst}
use mathlib.Core.Logic.{◌≢◌}
use mathlib.Core.List.{List}
use mathlib.Core.Bool.{true, false, not, true≢false}
use Prim.Native.Nat.{ℕ, ◌≤◌}
use lib.ListN.{get_or, length}
use lib.Dec.{eqb}
use borrow.Author.Tests.{eqb-true, eqb-false, ne_eqb, leb-true}
use Rattle.rules.specs.Limits.{RECORD_BYTES, MARK_0, MARK_1, LAST_TIME_MS, OLD_DISPUTE, SWEEP, LAST_OPERATION}
use Rattle.rules.specs.Record.{uses_of, used_or_zero, form_tests, well_formed_by, well_formed, decode, nothing, accept_tests, accepted_by, accepted, read_by, read_of}
use Rattle.rules.specs.declared.Form.TheVariants.{Today}
use Rattle.rules.specs.declared.Submission.{Submission}
use Rattle.rules.specs.declared.Read.{Read}
use Rattle.rules.proofs.Bools.{or_other, not_true_false, all_at, cond_case}

pub record Accepted (b : List ℕ) : Type 0 where
  pub bytes : length b ≡ RECORD_BYTES
  pub mark_0 : get_or b 0 0 ≡ MARK_0
  pub mark_1 : get_or b 1 0 ≡ MARK_1
  pub formed : well_formed (decode b) ≡ true

pub accepted_says : (b : List ℕ) → accepted b ≡ true → Accepted b
unfolding accepted_by
accepted_says b h =
    let at = all_at (accept_tests Today b) h in
    record { bytes = eqb-true _ _ (at 0); mark_0 = eqb-true _ _ (at 1); mark_1 = eqb-true _ _ (at 2); formed = at 3 }

pub read_formed : (b : List ℕ) → eqb (read_of b).number 3 ≡ false → well_formed (read_of b).submission ≡ true
unfolding read_by
read_formed b =
    cond_case (λ (r : Read). eqb r.number 3 ≡ false → well_formed r.submission ≡ true) (accepted b)
    (record { number = 0; submission = decode b }) (record { number = 3; submission = nothing })
    (λ e h. (accepted_says b e).formed) (λ e h. absurd (true≢false h))

pub record Formed (s : Submission) : Type 0 where
  pub low : 1 ≤ s.op
  pub high : s.op ≤ LAST_OPERATION
  pub not_8 : s.op ≢ OLD_DISPUTE
  pub named : s.op ≢ SWEEP → s.signer ≢ 0
  pub sweep_unsigned : s.op ≡ SWEEP → s.signer ≡ 0
  pub now_right : s.now ≤ LAST_TIME_MS
  pub issued_right : s.issued ≤ LAST_TIME_MS
  pub until_right : s.until ≤ LAST_TIME_MS

pub formed_says : (s : Submission) → well_formed s ≡ true → Formed s
unfolding well_formed_by uses_of
formed_says s h =
    let at = all_at (form_tests Today s) h in
    record {
      low = leb-true 1 s.op (at 0);
      high = leb-true s.op LAST_OPERATION (at 1);
      not_8 = eqb-false s.op OLD_DISPUTE (not_true_false _ (at 2));
      named = λ ne. eqb-false s.signer 0 (not_true_false (eqb s.signer 0)
          (or_other (eqb s.op SWEEP) (not (eqb s.signer 0)) (ne_eqb s.op SWEEP ne) (at 17)));
      sweep_unsigned = λ e. eqb-true s.signer 0 (subst (λ (o : ℕ). used_or_zero (uses_of Today o).envelope s.signer ≡ true) e (at 5));
      now_right = leb-true s.now LAST_TIME_MS (at 18);
      issued_right = leb-true s.issued LAST_TIME_MS (at 19);
      until_right = leb-true s.until LAST_TIME_MS (at 21);
    }
