-- A submission, stage by stage, over plain values: what each early answer of the code is by the definition, and what is left when none comes. On a
-- ledger that is ready the first half of a step decides (`decided`), and what it decided says what the whole submission is.
use Rattle.std.specs.Prelude.{None, Some, Result, Err}
use mathlib.Core.Path.{◌≡◌, refl, sym, ap, ◌∙◌, subst}
use mathlib.Core.List.{List, ◌++◌}
use mathlib.Core.Bool.{true, false}
use Prim.Native.Nat.{ℕ}
use native.Mathlib.Omega.{arith}
use lib.Dec.{eqb}
use borrow.Author.Tests.{ne_eqb}
use Rattle.rules.specs.Ledger.{Ledger, Outcome, outcome, lengths_right, Sized}
use Rattle.rules.specs.Numbers.{number_of, as_number, word_of, read_as, decided_as}
use Rattle.rules.specs.Record.{well_formed, read_of, nothing}
use Rattle.rules.specs.Sound.{sound, Ready}
use Rattle.rules.specs.Refusals.{first, refusals_by, entry_refusals, envelope_refusals, operation_refusals}
use Rattle.rules.specs.Settle.{Done, done, settle}
use Rattle.rules.specs.Submit.{answer_by, answer_of, decided, submit_read_by, submit_by, submit}
use Rattle.rules.specs.declared.Decided.{Decided}
use Rattle.rules.specs.declared.Read.{Read}
use Rattle.rules.specs.declared.Submission.{Submission}
use Rattle.rules.specs.declared.refusal.Refusal.{Refusal}
use Rattle.rules.proofs.Calls.{by_answer, number_is}
use Rattle.rules.proofs.Demand12.{laid_down}
use Rattle.rules.proofs.Formed.{read_formed}
use Rattle.rules.proofs.Numbers.{not_0}
use Rattle.settling.specs.Needs.{Settles}

-- a record that is read has well-formed fields
pub read_well : (b : List ℕ) {s : Submission} → read_as (Some s) ≡ read_of b → well_formed s ≡ true
read_well b e =
    subst (λ (x : Read). well_formed x.submission ≡ true) (sym e)
    (read_formed b (ne_eqb (read_of b).number 3 (λ t. omega (arith, t, ap (λ (x : Read). x.number) e))))

abbrev as_read : ℕ → Submission → Read
as_read n s = record { number = n; submission = s }

module _ (L : Ledger) (b : List ℕ) where
  pub bad_table : lengths_right L ≡ false → outcome 1 0 L ≡ submit L b
  unfolding submit_by submit_read_by answer_by refusals_by entry_refusals
  bad_table e = rw e

  pub damaged : lengths_right L ≡ true → sound L ≡ false → outcome 2 0 L ≡ submit L b
  unfolding submit_by submit_read_by answer_by refusals_by entry_refusals
  damaged e f = rw (e, f)

  -- right lengths, and sound: what the record's bytes are read as decides
  module _ (ready : Ready L) where
    answered_3 : (read_of b).number ≡ 3 → answer_of L (read_of b) ≡ 3
    unfolding answer_by refusals_by entry_refusals
    answered_3 e = rw (ready.lengths, ready.sound, e)

    answered_later : eqb (read_of b).number 3 ≡ false
        → answer_of L (read_of b) ≡ first (envelope_refusals L (read_of b).submission ++ operation_refusals L (read_of b).submission)
    unfolding answer_by refusals_by entry_refusals
    answered_later e = rw (ready.lengths, ready.sound, e)

    -- a record that is not read is malformed
    pub malformed : read_as None ≡ read_of b → as_read 3 nothing ≡ decided L b
    malformed read =
        let t : (read_of b).number ≡ 3 = sym (ap (λ (x : Read). x.number) read) in
        read ∙ ap (λ (n : ℕ). as_read n (read_of b).submission) (t ∙ sym (answered_3 t))

    -- one that is read is answered by the later checks
    pub checked : {s : Submission} {n : ℕ} → read_as (Some s) ≡ read_of b
        → n ≡ first (envelope_refusals L s ++ operation_refusals L s) → as_read n s ≡ decided L b
    checked {s} read e =
        let f : eqb (read_of b).number 3 ≡ false = ne_eqb (read_of b).number 3 (λ t. omega (arith, t, ap (λ (x : Read). x.number) read)) in
        ap (λ (k : ℕ). as_read k s) e
        ∙ ap (λ (x : Read). as_read (first (envelope_refusals L x.submission ++ operation_refusals L x.submission)) x.submission) read
        ∙ ap (λ (k : ℕ). as_read k (read_of b).submission) (sym (answered_later f))

    -- ---- what was decided

    module _ (d : Decided) (is : decided_as d ≡ decided L b) where
      number_so : as_number d.outcome ≡ answer_of L (read_of b)
      number_so = ap (λ (x : Read). x.number) is

      submission_so : d.submission ≡ (read_of b).submission
      submission_so = ap (λ (x : Read). x.submission) is

      -- a refusal is handed on, and changes nothing
      pub refused_so : {r : Refusal} {whole : Result ℕ Refusal} → d.outcome ≡ Err r → whole ≡ Err r → outcome (as_number whole) (word_of whole) L ≡ submit L b
      refused_so {r} was e =
          let n : number_of r ≡ answer_of L (read_of b) = sym (ap as_number was) ∙ number_so in
          ap (λ (x : Result ℕ Refusal). outcome (as_number x) (word_of x) L) e
          ∙ ap (λ (k : ℕ). outcome k 0 L) n
          ∙ by_answer (λ (o : Outcome). outcome (answer_of L (read_of b)) 0 L ≡ o) L b (λ z. absurd (not_0 r (n ∙ z))) (λ ne. refl)

      -- and otherwise nothing stands against settling
      pub settles_so : Sized L.edition → as_number d.outcome ≡ 0 → Settles L d.submission
      settles_so sized z =
          let y : answer_of L (read_of b) ≡ 0 = sym number_so ∙ z in
          let f : eqb (read_of b).number 3 ≡ false = ne_eqb (read_of b).number 3 (λ t. omega (arith, answered_3 t, y)) in
          subst (λ (s : Submission). Settles L s) (sym submission_so)
          (record { sized = sized; ready = ready; formed = read_formed b f; passed = sym (answered_later f) ∙ y })

      pub settled_so : as_number d.outcome ≡ 0 → (word : ℕ) (K : Ledger) → done word K ≡ settle d.submission L → outcome 0 word K ≡ submit L b
      settled_so z word K e =
          ap (λ (x : Done). outcome 0 x.word x.after) (e ∙ ap (λ (s : Submission). settle s L) submission_so)
          ∙ sym (laid_down L b (number_is L b ∙ sym number_so ∙ z))
