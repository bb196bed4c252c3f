-- From the code to the theorems: what the calls of a run left and said is what the definitions say of the same calls, call by call. So the
-- books, soundness and the replay guard hold of every run.
use mathlib.Core.Path.{◌≡◌, refl, sym, ap, ap₂, ◌∙◌, subst, subst₂}
use mathlib.Core.Logic.{◌≢◌, ◌⊎◌, inl, inr}
use mathlib.Core.List.{List, [], ◌∷◌, ◌++◌, append_assoc}
use Prim.Native.Nat.{ℕ, ◌≤◌}
use native.Mathlib.Omega.{arith}
use Rattle.rules.specs.Limits.{HEADER_LEN, ESCROW_LEN}
use Rattle.rules.specs.Ledger.{Edition, Ledger, Outcome, outcome, set_header, fresh}
use Rattle.rules.specs.Sound.{sound}
use Rattle.rules.specs.Submit.{submit}
use Rattle.rules.specs.Recording.{Entry, as_entry}
use Rattle.rules.specs.Replay.{Gone, told, replay}
use Rattle.rules.specs.Report.{Report, has_named, Reported, telling, report}
use Rattle.rules.specs.History.{Call, starts_afresh, submits, Event, Said, said_of, submitted, begun, after, said}
use Rattle.rules.specs.Promises.{Lent, started, AddsUp}
use Rattle.rules.specs.Results.{Pair, Looked, wallet_standing, place_of_escrow, escrow_row, place_of_receipt, receipt_row, Result, by_fresh, by_submit, by_replay, by_report, by_lookup, by_read, by_write, by_status, by_convert, Meets}
use Rattle.rules.specs.Runs.{asked, set_asked, LentOf, left_by, read_in, events, submitted_by, heard_of, Surface, Run, last_of, heard_by, submitted_in, CallsAreListed, CallsDecide, RunsAddUp, RunsRefuseRetries, RetriesChangeNothing}
use Rattle.rules.specs.declared.Verdict.{Verdict}
use Rattle.rules.proofs.Bools.{cond_case}
use Rattle.rules.proofs.Demand12.{fresh_right}
use Rattle.rules.proofs.Books.{the_books}
use Rattle.rules.proofs.SoundAlways.{sound_always}
use Rattle.rules.proofs.Heard.{opening, first_said, some_heard, after_more, said_more, answered_on, answered_more, retry_heard, Begins, begins}
use Rattle.rules.proofs.Replays.{replay_calls, replays, heard_as}
use Rattle.rules.proofs.Reports.{report_calls, Reports, reports}
use Rattle.rules.proofs.Results.{listed, decided_by}

-- ---- one call

-- the calls of which it is one or several, or none if nothing can change and nothing is heard. A replay is a start afresh, and then submissions,
-- and so is a report, unless it had stopped before.
abbrev pub calls_of : Result → List Call
calls_of (by_fresh lent left number) = starts_afresh ∷ []
calls_of (by_submit lent left bytes number word) = submits bytes ∷ []
calls_of (by_replay lent left recording verdict) = replay_calls recording verdict
calls_of (by_report lent left recording before after number entries) = report_calls before recording entries
calls_of (by_lookup lent left looked) = []
calls_of (by_read bytes answer) = []
calls_of (by_write s out left number) = []
calls_of (by_status number status) = []
calls_of (by_convert recording left) = []

-- what a call did by the definitions: it left what they leave, what was heard of it is what they say, and what was submitted in it was answered
-- as they answer it
pub record DidAs (r : Result) (L : Ledger) : Type 0 where
  pub left : left_by r L ≡ after L (calls_of r)
  pub heard : heard_of r ≡ said L (calls_of r)
  pub answered : submitted_by r ≡ answered_on L (calls_of r)

-- a lookup leaves its slices, and so the ledger, whichever table it was lent
same_table : (looked : Looked) (L : Ledger) → set_asked looked (asked looked L) L ≡ L
same_table (wallet_standing id standing) L = refl
same_table (place_of_escrow number place) L = refl
same_table (escrow_row number part) L = refl
same_table (place_of_receipt number place) L = refl
same_table (receipt_row number part) L = refl

same_ledger : (L : Ledger) (looked : Looked) {left lent : Pair} → left ≡ lent → (lent.header ≡ L.header) × (lent.table ≡ asked looked L)
    → set_header left.header (set_asked looked left.table L) ≡ L
same_ledger L looked e l =
    ap₂ (λ (h t : List ℕ). set_header h (set_asked looked t L)) (ap (λ (p : Pair). p.header) e ∙ l.0) (ap (λ (p : Pair). p.table) e ∙ l.1)
    ∙ ap (set_header L.header) (same_table looked L)

-- a report, on the tables that it was lent
did_report : (L left : Ledger) (r : List ℕ) (before after : Report) (number entries : ℕ) → telling number entries after left ≡ report submit before L r
    → DidAs (by_report L left r before after number entries) L
did_report L left r before after number entries o =
    subst (λ (x : Reported). DidAs (by_report L x.left r before x.report x.number x.entries) L) (sym o)
    (let a : Reports before L r (report submit before L r) = reports before L r in record { left = a.left; heard = a.heard; answered = a.submitted })

pub did_as : (e : Edition) (r : Result) (L : Ledger) → Meets e r → LentOf r L → DidAs r L
did_as e (by_fresh lent left number) L m l =
    let o : outcome number 0 left ≡ fresh L = m.1 ∙ ap fresh l in
    record { left = ap (λ (x : Outcome). x.left) o; heard = ap (λ (x : Outcome). begun x.number ∷ []) o; answered = refl }
did_as e (by_submit lent left bytes number word) L m l =
    let o : outcome number word left ≡ submit L bytes = m.1 ∙ ap (λ (K : Ledger). submit K bytes) l in
    record {
      left = ap (λ (x : Outcome). x.left) o;
      heard = ap (λ (x : Outcome). submitted (said_of bytes x) ∷ []) o;
      answered = ap (λ (x : Outcome). as_entry bytes x.number x.word ∷ []) o;
    }
did_as e (by_replay lent left recording verdict) L m l =
    subst (λ (g : Gone Verdict). DidAs (by_replay lent g.left recording g.found) L) (sym (m.1 ∙ ap (λ (K : Ledger). told (replay submit K recording)) l))
    (let a = replays L recording in record { left = a.left; heard = heard_as L recording (replay submit L recording) a; answered = a.submitted })
did_as e (by_report lent left recording before after number entries) L m l =
    subst (DidAs (by_report lent left recording before after number entries)) l (did_report lent left recording before after number entries m.1)
did_as e (by_lookup lent left looked) L m l = record { left = same_ledger L looked m.0 l; heard = refl; answered = refl }
did_as e (by_read bytes answer) L m l = record { left = refl; heard = refl; answered = refl }
did_as e (by_write s out left number) L m l = record { left = refl; heard = refl; answered = refl }
did_as e (by_status number status) L m l = record { left = refl; heard = refl; answered = refl }
did_as e (by_convert recording left) L m l = record { left = refl; heard = refl; answered = refl }

-- ---- the edition

-- a call of which something is heard was lent tables of the edition; the others leave theirs
edition_of : (e : Edition) (r : Result) (L : Ledger) → Meets e r → LentOf r L → (L.edition ≡ e) ⊎ ((heard_of r ≡ []) × ((left_by r L).edition ≡ L.edition))
edition_of e (by_fresh lent left number) L m l = inl (sym (ap (λ (K : Ledger). K.edition) l) ∙ m.0)
edition_of e (by_submit lent left bytes number word) L m l = inl (sym (ap (λ (K : Ledger). K.edition) l) ∙ m.0)
edition_of e (by_replay lent left recording verdict) L m l = inl (sym (ap (λ (K : Ledger). K.edition) l) ∙ m.0)
edition_of e (by_report lent left recording before after number entries) L m l = inl (sym (ap (λ (K : Ledger). K.edition) l) ∙ m.0)
edition_of e (by_lookup lent left looked) L m l = inr (refl, ap (λ (K : Ledger). K.edition) (same_ledger L looked m.0 l))
edition_of e (by_read bytes answer) L m l = inr (refl, refl)
edition_of e (by_write s out left number) L m l = inr (refl, refl)
edition_of e (by_status number status) L m l = inr (refl, refl)
edition_of e (by_convert recording left) L m l = inr (refl, refl)

-- a call of which one submission is heard leaves the ledger if that is refused
refused_leaves : (e : Edition) (r : Result) (L : Ledger) (f : Said) → Meets e r → LentOf r L → heard_of r ≡ (submitted f ∷ []) → f.number ≢ 0 → left_by r L ≡ L
refused_leaves e (by_fresh lent left number) L f m l x n = absurd (omega (arith, ap opening x))
refused_leaves e (by_submit lent left bytes number word) L f m l x n =
    ((listed e (by_submit lent left bytes number word) m).1 (λ z. n (sym (ap (λ (l : List Event). (first_said f l).number) x) ∙ z))).1 ∙ l
refused_leaves e (by_replay lent left recording verdict) L f m l x n = absurd (omega (arith, ap opening x))
refused_leaves e (by_report lent left recording before after number entries) L f m l x n =
    absurd
    (cond_case (λ (es : List Event). es ≡ (submitted f ∷ []) → ⊥) (has_named before) [] (begun number ∷ events (read_in lent entries recording))
    (λ named y. omega (arith, ap opening y)) (λ unnamed y. omega (arith, ap opening y)) x)
refused_leaves e (by_lookup lent left looked) L f m l x n = same_ledger L looked m.0 l
refused_leaves e (by_read bytes answer) L f m l x n = refl
refused_leaves e (by_write s out left number) L f m l x n = refl
refused_leaves e (by_status number status) L f m l x n = refl
refused_leaves e (by_convert recording left) L f m l x n = refl

-- the book begins with the start
begun_adds_up : (L : Ledger) (es : List Event) → AddsUp L es → AddsUp L (begun 0 ∷ es)
begun_adds_up L es a = record { balance = a.balance; held = a.held; nobody = a.nobody; grants = a.grants }

-- ---- runs

module _ (S : Surface) where
  abbrev ed : Edition
  ed = S.edition

  pub calls_are_listed : CallsAreListed S
  calls_are_listed d = listed ed (S.shows d) (S.meets d)

  pub calls_decide : CallsDecide S
  calls_decide d = decided_by ed (S.shows d) (S.meets d)

  abbrev pub calls : List S.Did → List Call
  calls [] = []
  calls (d ∷ ds) = calls_of (S.shows d) ++ calls ds

  -- what a run left and said, and what was answered in it, is what the definitions say of the same calls
  pub run_after : (L : Ledger) (ds : List S.Did) → Run S L ds → last_of S L ds ≡ after L (calls ds)
  run_after L [] m = refl
  run_after L (d ∷ ds) m =
      let x : DidAs (S.shows d) L = did_as ed (S.shows d) L (S.meets d) m.0 in
      run_after (left_by (S.shows d) L) ds m.1 ∙ ap (λ (K : Ledger). after K (calls ds)) x.left ∙ sym (after_more L (calls_of (S.shows d)) (calls ds))

  pub run_heard : (L : Ledger) (ds : List S.Did) → Run S L ds → heard_by S ds ≡ said L (calls ds)
  run_heard L [] m = refl
  run_heard L (d ∷ ds) m =
      let x : DidAs (S.shows d) L = did_as ed (S.shows d) L (S.meets d) m.0 in
      ap₂ (λ (y z : List Event). y ++ z) x.heard
      (run_heard (left_by (S.shows d) L) ds m.1 ∙ ap (λ (K : Ledger). said K (calls ds)) x.left) ∙ sym (said_more L (calls_of (S.shows d)) (calls ds))

  pub run_answered : (L : Ledger) (ds : List S.Did) → Run S L ds → submitted_in S ds ≡ answered_on L (calls ds)
  run_answered L [] m = refl
  run_answered L (d ∷ ds) m =
      let x : DidAs (S.shows d) L = did_as ed (S.shows d) L (S.meets d) m.0 in
      ap₂ (λ (y z : List Entry). y ++ z) x.answered
      (run_answered (left_by (S.shows d) L) ds m.1 ∙ ap (λ (K : Ledger). answered_on K (calls ds)) x.left) ∙ sym (answered_more L (calls_of (S.shows d)) (calls ds))

  -- a run of which something is heard was lent tables of the edition
  pub run_edition : (L : Ledger) (ds : List S.Did) → Run S L ds → heard_by S ds ≢ [] → L.edition ≡ S.edition
  run_edition L [] m some = absurd (some refl)
  run_edition L (d ∷ ds) m some = go (edition_of ed (S.shows d) L (S.meets d) m.0) (run_edition (left_by (S.shows d) L) ds m.1)
    where
      go : (L.edition ≡ S.edition) ⊎ ((heard_of (S.shows d) ≡ []) × ((left_by (S.shows d) L).edition ≡ L.edition))
          → (heard_by S ds ≢ [] → (left_by (S.shows d) L).edition ≡ S.edition) → L.edition ≡ S.edition
      go (inl e) f = e
      go (inr x) f = sym x.1 ∙ f (λ n. some (ap₂ (λ (y z : List Event). y ++ z) x.0 n))

  wide : (L : Ledger) → L.edition ≡ S.edition → HEADER_LEN ≤ L.edition.header
  wide L same = subst (λ (e : Edition). HEADER_LEN ≤ e.header) (sym same) S.sized.header

  -- a start afresh that was answered 0 was lent tables of right lengths
  pub lent_of : (L : Ledger) → L.edition ≡ S.edition → (fresh L).number ≡ 0 → Lent L
  lent_of L same z = record {
    lengths = fresh_right L z;
    header = wide L same;
    escrow = subst (λ (e : Edition). ESCROW_LEN ≤ e.escrow) (sym same) S.sized.escrow;
  }

  pub runs_add_up : RunsAddUp S
  runs_add_up L run heard m x =
      let b : Begins L (after L (calls run)) (answered_on L (calls run)) heard = begins L (calls run) heard (sym (run_heard L run m) ∙ x) in
      let lent : Lent L = lent_of L (run_edition L run m (some_heard [] (begun 0) heard x)) b.number in
      let last : last_of S L run ≡ after (started L) b.rest = run_after L run m ∙ b.after_rest in (
        subst₂ AddsUp (sym last) (ap (λ (l : List Event). begun 0 ∷ l) b.heard_rest ∙ sym x) (begun_adds_up _ _ (the_books L lent b.rest)),
        ap sound last ∙ sound_always L lent b.rest,
      )

  pub runs_refuse_retries : RunsRefuseRetries S
  runs_refuse_retries L run before between behind e f m x =
      retry_heard L (wide L (run_edition L run m (some_heard before (submitted e) _ x))) (calls run) before between behind e f (sym (run_heard L run m) ∙ x)

  -- a run goes on from where it was
  run_fst : (L : Ledger) (xs ys : List S.Did) → Run S L (xs ++ ys) → Run S L xs
  run_fst L [] ys m = tt
  run_fst L (x ∷ xs) ys m = (m.0, run_fst (left_by (S.shows x) L) xs ys m.1)

  run_snd : (L : Ledger) (xs ys : List S.Did) → Run S L (xs ++ ys) → Run S (last_of S L xs) ys
  run_snd L [] ys m = m
  run_snd L (x ∷ xs) ys m = run_snd (left_by (S.shows x) L) xs ys m.1

  heard_more : (xs ys : List S.Did) → heard_by S (xs ++ ys) ≡ heard_by S xs ++ heard_by S ys
  heard_more [] ys = refl
  heard_more (x ∷ xs) ys =
      ap (λ (l : List Event). heard_of (S.shows x) ++ l) (heard_more xs ys) ∙ sym (append_assoc (heard_of (S.shows x)) (heard_by S xs) (heard_by S ys))

  pub retries_change_nothing : RetriesChangeNothing S
  retries_change_nothing L run again before between e f m x y whole zero no_sweep same_signer same_nonce =
      refused_leaves ed (S.shows again) (last_of S L run) f (S.meets again) (run_snd L run (again ∷ []) m).0 y
      (runs_refuse_retries L (run ++ (again ∷ [])) before between [] e f m heard whole zero no_sweep same_signer same_nonce).0
    where
      heard : heard_by S (run ++ (again ∷ [])) ≡ before ++ (submitted e ∷ (between ++ (submitted f ∷ [])))
      heard =
          heard_more run (again ∷ []) ∙ ap₂ (λ (u v : List Event). u ++ v) x (ap (λ (l : List Event). l ++ []) y)
          ∙ append_assoc before (submitted e ∷ between) (submitted f ∷ [])
