-- ONE REPLY TO A CLAIM. A well-formed record is of none of the forms that the request rules out; what is answered 35 is where that row holds; and no
-- line of a report is of row 8, so the month's law of cells leaves that row.
use mathlib.Core.Path.{◌≡◌, refl, sym, ap, ◌∙◌}
use mathlib.Core.List.{List, [], ◌∷◌, ◌++◌}
use mathlib.Core.Bool.{Bool, true, false, not, ◌&&◌, or-false}
use Prim.Native.Nat.{ℕ, zero, suc}
use native.Mathlib.Omega.{arith}
use lib.ListN.{take}
use lib.Dec.{eqb, leb}
use borrow.Author.Tests.{eqb-true}
use Rattle.rules.specs.Limits.{REPLY, OLD_DISPUTE, LAST_OPERATION, ACCEPTS, REASON_GIVEN}
use Rattle.rules.specs.Ledger.{Ledger}
use Rattle.rules.specs.Record.{in_form, form_tests, well_formed_by, well_formed, decode, nothing, accepted, read_by, read_of}
use Rattle.rules.specs.Refusals.{refusals_by, refusals, entry_refusals, envelope_refusals, operation_refusals_by, clear}
use Rattle.rules.specs.Submit.{answer_by, submit}
use Rattle.rules.specs.Recording.{Entry, entries_of}
use Rattle.rules.specs.Report.{Line, grid_row}
use Rattle.rules.specs.Promises.{started}
use Rattle.rules.specs.Month.{Lending, lines_from, lines_of, lines_in, in_cell}
use Rattle.rules.specs.Reply.{EightIsMalformed, AcceptsWithoutReason, ReasonAskedOfDisputes, Row8Stays}
use Rattle.rules.specs.declared.Form.TheVariants.{Today}
use Rattle.rules.specs.declared.Read.{Read}
use Rattle.rules.specs.declared.Submission.{Submission}
use Rattle.rules.proofs.Bools.{and_fst, and_snd, or_other, all_at, cond_case}
use Rattle.rules.proofs.Formed.{accepted_says, read_formed, formed_says}
use Rattle.rules.proofs.Refused.{first_holds}
use Rattle.rules.proofs.Calls.{number_is}
use Rattle.rules.proofs.Month.{month_says}

-- ---- records

pub eight_is_malformed : EightIsMalformed
unfolding read_by
eight_is_malformed b e =
    cond_case (λ (r : Read). r.number ≡ 3) (accepted b) (record { number = 0; submission = decode b }) (record { number = 3; submission = nothing })
    (λ a. absurd ((formed_says (decode b) (accepted_says b a).formed).not_8 e)) (λ a. refl)

-- bits 2 and 3 are not set together
apart : (s : Submission) → well_formed s ≡ true → clear s ACCEPTS ≡ false → clear s REASON_GIVEN ≡ true
unfolding well_formed_by
apart s h e = or_other (clear s ACCEPTS) (clear s REASON_GIVEN) e (all_at (form_tests Today s) h 4)

pub accepts_without_reason : AcceptsWithoutReason
accepts_without_reason b z o = apart (read_of b).submission (read_formed b (ap (λ (n : ℕ). eqb n 3) z))

-- ---- the answer 35

pub reason_asked_of_disputes : ReasonAskedOfDisputes
unfolding answer_by refusals_by entry_refusals envelope_refusals operation_refusals_by
reason_asked_of_disputes L b e =
    let s : Submission = (read_of b).submission in
    let holds : (eqb s.op REPLY && clear s ACCEPTS) && clear s REASON_GIVEN ≡ true =
    sym (or-false _) ∙ first_holds (refusals L (read_of b)) 35 (omega arith) (sym (number_is L b) ∙ e) in
    let is_dispute : eqb s.op REPLY && clear s ACCEPTS ≡ true = and_fst (eqb s.op REPLY && clear s ACCEPTS) _ holds in
    (eqb-true s.op REPLY (and_fst (eqb s.op REPLY) _ is_dispute), and_snd (eqb s.op REPLY) _ is_dispute, and_snd (eqb s.op REPLY && clear s ACCEPTS) _ holds)

-- ---- row 8

-- no operation byte has it
other_row : (op : ℕ) → eqb (grid_row op) OLD_DISPUTE ≡ false
other_row op =
    cond_case (λ (row : ℕ). eqb row OLD_DISPUTE ≡ false) (leb op LAST_OPERATION && in_form Today op) op 0
    (λ e. not_8 (eqb op OLD_DISPUTE) (and_snd (leb op LAST_OPERATION) (not (eqb op OLD_DISPUTE)) e)) (λ e. refl)
  where
    not_8 : (b : Bool) → not b ≡ true → b ≡ false
    not_8 true h = sym h
    not_8 false h = refl

abbrev NoneIn8 : List Line → Type 0
NoneIn8 [] = Unit {0}
NoneIn8 (l ∷ ls) = (eqb l.row OLD_DISPUTE ≡ false) × NoneIn8 ls

none_from : (L : Ledger) (es : List Entry) → NoneIn8 (lines_from L es)
none_from L [] = tt
none_from L (e ∷ es) = (other_row (decode e.bytes).op, none_from (submit L e.bytes).left es)

none_joined : (ls ms : List Line) → NoneIn8 ls → NoneIn8 ms → NoneIn8 (ls ++ ms)
none_joined [] ms a b = b
none_joined (l ∷ ls) ms a b = (a.0, none_joined ls ms a.1 b)

none_in : (ms : List Lending) → NoneIn8 (lines_in ms)
none_in [] = tt
none_in (m ∷ ms) = none_joined (lines_of m.tables m.recording) (lines_in ms) (none_from (started m.tables) (entries_of m.recording)) (none_in ms)

none_counted : (n : ℕ) (ls : List Line) (column : ℕ) → NoneIn8 ls → in_cell OLD_DISPUTE column (take n ls) ≡ 0
none_counted zero ls column a = refl
none_counted (suc n) [] column a = refl
none_counted (suc n) (l ∷ ls) column a = rw (a.0, none_counted n ls column a.1)

pub row_8_stays : Row8Stays
row_8_stays ms lent R o column =
    let m = month_says ms lent R o in
    m.counts.cells OLD_DISPUTE column ∙ rw (none_counted m.entries (lines_in ms) column (none_in ms)) (omega arith)
