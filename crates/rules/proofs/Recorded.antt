-- What a host has recorded of a run is what the definitions record of the same records, from the start afresh on: a record that is submitted is
-- answered as they say, and every other call leaves the ledger, a start afresh that is refused and bytes of another length too. So own
-- recordings agree in runs.
use mathlib.Core.Path.{◌≡◌, refl, sym, ap, ◌∙◌, subst, subst₂}
use mathlib.Core.Logic.{◌≢◌}
use mathlib.Core.List.{List, [], ◌∷◌}
use mathlib.Core.Bool.{true, not, cond, true≢false}
use Prim.Native.Nat.{ℕ, suc}
use lib.ListN.{length}
use lib.Dec.{eqb}
use borrow.Author.Tests.{eqb-true, eqb-false, ne_eqb}
use Rattle.rules.specs.Limits.{RECORD_BYTES, ALL_AGREE}
use Rattle.rules.specs.Ledger.{Edition, Ledger, fresh}
use Rattle.rules.specs.Record.{accepted_by, read_by, read_of}
use Rattle.rules.specs.Submit.{submit}
use Rattle.rules.specs.Recording.{Entry, as_entry, records_of, recording_of}
use Rattle.rules.specs.Replay.{Gone, gone, told, replay, recorded_from, ledger_after, verdict, answer}
use Rattle.rules.specs.History.{Call, starts_afresh, submits, reads, writes, asks_status, finds_wallet, finds_escrow, finds_receipt, Event, begun, unbroken, after, said}
use Rattle.rules.specs.Promises.{started}
use Rattle.rules.specs.Same.{SameWritten}
use Rattle.rules.specs.Agreement.{AllRecords, Finds}
use Rattle.rules.specs.Results.{Result, Meets}
use Rattle.rules.specs.Runs.{recorded, Surface, last_of, submitted_in, RunsRecordingsAgree}
use Rattle.rules.specs.declared.Verdict.{Verdict}
use Rattle.rules.proofs.Bools.{and_fst, and_snd, not_true_false, cond_case}
use Rattle.rules.proofs.Calls.{number_is, settled}
use Rattle.rules.proofs.Demand12.{refusal_changes_nothing, fresh_refused}
use Rattle.rules.proofs.Heard.{some_heard, answered_on, Begins, begins}
use Rattle.rules.proofs.Recordings.{own_recordings_agree}
use Rattle.rules.proofs.Runs.{calls, run_after, run_heard, run_answered, run_edition, lent_of}

-- ---- calls

-- the entries are those of their records from L on, and the last ledger is what those leave
record AsRecorded (L : Ledger) (es : List Entry) (last : Ledger) : Type 0 where
  whole : AllRecords (records_of es)
  entries : es ≡ recorded_from submit L (records_of es)
  left : last ≡ ledger_after submit L (records_of es)

-- bytes of another length are no record, and change nothing
other_length : (L : Ledger) (b : List ℕ) → length b ≢ RECORD_BYTES → (submit L b).left ≡ L
unfolding read_by accepted_by
other_length L b h = (refusal_changes_nothing L b (λ z. true≢false (sym malformed ∙ (settled L (read_of b) (sym (number_is L b) ∙ z)).formed))).left
  where
    malformed : eqb (read_of b).number 3 ≡ true
    malformed = rw (ne_eqb (length b) RECORD_BYTES h) refl

-- a submission, before others
one_more : (L : Ledger) (b : List ℕ) (es : List Entry) (last : Ledger) → AsRecorded (submit L b).left es last
    → AsRecorded L (cond (eqb (length b) RECORD_BYTES) (as_entry b (submit L b).number (submit L b).word ∷ es) es) last
one_more L b es last a =
    cond_case (λ (l : List Entry). AsRecorded L l last) (eqb (length b) RECORD_BYTES) (as_entry b (submit L b).number (submit L b).word ∷ es) es
    (λ t. record {
      whole = (eqb-true (length b) RECORD_BYTES t, a.whole);
      entries = ap (λ (l : List Entry). as_entry b (submit L b).number (submit L b).word ∷ l) a.entries;
      left = a.left;
    })
    (λ f. subst (λ (K : Ledger). AsRecorded K es last) (other_length L b (eqb-false (length b) RECORD_BYTES f)) a)

-- no start afresh answered 0
not_begun : (n : ℕ) (es : List Event) → unbroken (begun n ∷ es) ≡ true → n ≢ 0
not_begun n es u = eqb-false n 0 (not_true_false (eqb n 0) (and_fst (not (eqb n 0)) (unbroken es) u))

calls_recorded : (L : Ledger) (cs : List Call) → unbroken (said L cs) ≡ true → AsRecorded L (recorded (answered_on L cs)) (after L cs)
calls_recorded L [] u = record { whole = tt; entries = refl; left = refl }
calls_recorded L (starts_afresh ∷ cs) u =
    subst (λ (K : Ledger). AsRecorded K (recorded (answered_on (started L) cs)) (after (started L) cs))
    (fresh_refused L (not_begun (fresh L).number (said (started L) cs) u))
    (calls_recorded (started L) cs (and_snd (not (eqb (fresh L).number 0)) (unbroken (said (started L) cs)) u))
calls_recorded L (submits b ∷ cs) u =
    one_more L b (recorded (answered_on (submit L b).left cs)) (after (submit L b).left cs) (calls_recorded (submit L b).left cs u)
calls_recorded L (reads b ∷ cs) u = calls_recorded L cs u
calls_recorded L (writes s out ∷ cs) u = calls_recorded L cs u
calls_recorded L (asks_status n ∷ cs) u = calls_recorded L cs u
calls_recorded L (finds_wallet id ∷ cs) u = calls_recorded L cs u
calls_recorded L (finds_escrow k ∷ cs) u = calls_recorded L cs u
calls_recorded L (finds_receipt k ∷ cs) u = calls_recorded L cs u

-- ---- a run

as_many : (es : List Entry) → length (records_of es) ≡ length es
as_many [] = refl
as_many (e ∷ es) = ap suc (as_many es)

module _ (S : Surface) where
  pub runs_recordings_agree : RunsRecordingsAgree S
  runs_recordings_agree L run heard m x u eight again lent left v shown same = (
    ap (λ (g : Gone Verdict). g.found) met ∙ found.found ∙ ap (λ (n : ℕ). verdict 0 ALL_AGREE n (answer 0 0) (answer 0 0)) (as_many es),
    subst₂ SameWritten (sym (ap (λ (g : Gone Verdict). g.left) met)) (sym run_is.left) found.left,
  )
    where
      es : List Entry
      es = recorded (submitted_in S run)

      edition_is : L.edition ≡ S.edition
      edition_is = run_edition S L run m (some_heard [] (begun 0) heard x)

      begins_so : Begins L (after L (calls S run)) (answered_on L (calls S run)) heard
      begins_so = begins L (calls S run) heard (sym (run_heard S L run m) ∙ x)

      run_is : AsRecorded (started L) es (last_of S L run)
      run_is =
          subst₂ (AsRecorded (started L)) (ap recorded (sym (run_answered S L run m ∙ begins_so.answered_rest))) (sym (run_after S L run m ∙ begins_so.after_rest))
          (calls_recorded (started L) begins_so.rest (ap unbroken begins_so.heard_rest ∙ u))

      -- what was replayed is what the definitions record
      met : gone v left ≡ told (replay submit lent (recording_of (recorded_from submit (started L) (records_of es))))
      met =
          (subst (λ (r : Result). Meets S.edition r) shown (S.meets again)).1
          ∙ ap (λ (l : List Entry). told (replay submit lent (recording_of l))) run_is.entries

      found : Finds (verdict 0 ALL_AGREE (length (records_of es)) (answer 0 0) (answer 0 0)) (ledger_after submit (started L) (records_of es)) (replay submit lent (recording_of (recorded_from submit (started L) (records_of es))))
      found =
          own_recordings_agree L lent (records_of es)
          (record {
            lent = lent_of S L edition_is begins_so.number;
            escrow = ap (λ (e : Edition). e.escrow) edition_is ∙ eight;
            lengths = same;
            records = run_is.whole;
          })
