-- A replay is a start afresh and then submissions, as many as were replayed: it leaves what those calls leave, and what was submitted in it with
-- which answers, as the caller can tell from the recording and the verdict alone, is what they were answered. By the fold's own recursion: each
-- entry that agrees was answered as recorded, and the one that does not is the last.
use mathlib.Core.Path.{◌≡◌, refl, sym, ap, ap₂, ◌∙◌, subst}
use mathlib.Core.Logic.{◌⊎◌, inl, inr}
use mathlib.Core.List.{List, [], ◌∷◌, ◌++◌}
use mathlib.Core.Bool.{Bool, true, false, cond, ◌&&◌, true≢false}
use Prim.Native.Nat.{ℕ, zero, suc, ◌+◌, ◌≤◌}
use native.Mathlib.Omega.{arith}
use lib.Dec.{eqb}
use borrow.Author.Tests.{eqb-true}
use Rattle.rules.specs.Limits.{NOT_REPLAYED, DISAGREES}
use Rattle.rules.specs.Ledger.{Ledger, Outcome, lengths_right, fresh}
use Rattle.rules.specs.Submit.{submit}
use Rattle.rules.specs.Recording.{Entry, as_entry, entries_of, cut_short}
use Rattle.rules.specs.Replay.{Next, on, stop, Gone, gone, further, through, answer, agrees, compared, ended, replay_on, replay, verdict, verdict_of, told}
use Rattle.rules.specs.History.{Call, starts_afresh, submits, Event, begun, says, after, said}
use Rattle.rules.specs.Promises.{started}
use Rattle.rules.specs.Agreement.{ReplayAnswers}
use Rattle.rules.specs.Results.{Finding}
use Rattle.rules.specs.Runs.{replayed_in, events}
use Rattle.rules.specs.declared.Answer.{Answer}
use Rattle.rules.specs.declared.Found.{Found}
use Rattle.rules.specs.declared.Found.TheVariants.{WrongLength, AllAgree, CutShort, Disagrees}
use Rattle.rules.specs.declared.Verdict.{Verdict}
use Rattle.rules.proofs.Bools.{cond_case, and_fst, and_snd}
use Rattle.rules.proofs.Heard.{answered_on}
use Rattle.rules.proofs.Demand12.{on_the_list, refusal_changes_nothing, fresh_zero, fresh_wrong}

-- the first n entries, submitted
abbrev pub submissions : ℕ → List Entry → List Call
submissions zero es = []
submissions (suc n) [] = []
submissions (suc n) (e ∷ es) = submits e.bytes ∷ submissions n es

-- what they are answered is what is heard of them
pub heard_so : (L : Ledger) (n : ℕ) (es : List Entry) → events (answered_on L (submissions n es)) ≡ said L (submissions n es)
heard_so L zero es = refl
heard_so L (suc n) [] = refl
heard_so L (suc n) (e ∷ es) = ap (λ (l : List Event). says L (submits e.bytes) ++ l) (heard_so (submit L e.bytes).left n es)

abbrev differs : Found → Bool
differs f = eqb (verdict_of f).finding DISAGREES

-- ---- from n entries on that agreed

record AsCalls (L : Ledger) (n : ℕ) (es : List Entry) (g : Gone Found) : Type 0 where
  count : ℕ
  finding : Finding (verdict_of g.found)
  replayed : (verdict_of g.found).replayed ≡ n + count
  last : differs g.found ≡ true → 1 ≤ count
  left : g.left ≡ after L (submissions count es)
  submitted : replayed_in (differs g.found) (verdict_of g.found).answered count es ≡ answered_on L (submissions count es)

-- the answer of an entry that agrees is the recorded one
recorded_is : (e : Entry) (o : Outcome) → agrees e o ≡ true → answer e.number e.word ≡ answer o.number o.word
recorded_is e o a =
    ap₂ answer (eqb-true e.number o.number (and_fst (eqb e.number o.number) _ a))
    (eqb-true e.word o.word (and_snd (eqb e.number o.number) _ a))

-- an entry that agrees, before others
one_more : (L : Ledger) (n : ℕ) (e : Entry) (es : List Entry) (g : Gone Found) → agrees e (submit L e.bytes) ≡ true
    → AsCalls (submit L e.bytes).left (n + 1) es g → AsCalls L n (e ∷ es) g
one_more L n e es g a c = record {
  count = suc c.count;
  finding = c.finding;
  replayed = omega (arith, c.replayed);
  last = λ d. omega arith;
  left = c.left;
  submitted =
      ap₂ (λ (x : Answer) (l : List Entry). as_entry e.bytes x.number x.word ∷ l) (as_recorded (differs g.found) c.count c.last) c.submitted;
}
  where
    o : Outcome
    o = submit L e.bytes

    -- it is not the last of those replayed, or none disagrees
    as_recorded : (d : Bool) (k : ℕ) → (d ≡ true → 1 ≤ k)
        → cond (d && eqb k 0) (verdict_of g.found).answered (answer e.number e.word) ≡ answer o.number o.word
    as_recorded d k h =
        cond_case (λ (x : Answer). x ≡ answer o.number o.word) (d && eqb k 0) _ _
        (λ t. absurd (omega (arith, h (and_fst d (eqb k 0) t), eqb-true k 0 (and_snd d (eqb k 0) t)))) (λ t. recorded_is e o a)

-- no entry is left
none_left : (L : Ledger) (n : ℕ) (f : Found) → Finding (verdict_of f) → (verdict_of f).replayed ≡ n → differs f ≡ false → AsCalls L n [] (gone f L)
none_left L n f z r d = record {
  count = 0;
  finding = z;
  replayed = omega (arith, r);
  last = λ t. absurd (true≢false (sym t ∙ d));
  left = refl;
  submitted = refl;
}

as_calls : (cut : Bool) (n : ℕ) (L : Ledger) (es : List Entry) → AsCalls L n es (through submit compared (ended cut) n L es)
unfolding through ended compared
as_calls cut n L [] =
    cond_case (λ (f : Found). AsCalls L n [] (gone f L)) cut (CutShort n) (AllAgree n)
    (λ e. none_left L n (CutShort n) (record { number = refl; finding = inr (inl refl); answered = omega arith; word = λ ne. refl }) refl refl)
    (λ e. none_left L n (AllAgree n) (record { number = refl; finding = inl refl; answered = omega arith; word = λ ne. refl }) refl refl)
as_calls cut n L (e ∷ es) =
    let o = submit L e.bytes in
    cond_case (λ (x : Next ℕ Found). AsCalls L n (e ∷ es) (further (λ (k : ℕ). through submit compared (ended cut) k o.left es) L o.left x)) (agrees e o)
    (on (n + 1)) (stop (Disagrees (n + 1) (answer e.number e.word) (answer o.number o.word)))
    (λ a. one_more L n e es _ a (as_calls cut (n + 1) o.left es))
    (λ a. record {
      count = 1;
      finding = record {
        number = refl;
        finding = inr (inr refl);
        answered = on_the_list L e.bytes;
        word = λ ne. (refusal_changes_nothing L e.bytes ne).word;
      };
      replayed = refl;
      last = λ d. omega arith;
      left = refl;
      submitted = refl;
    })

-- ---- the replay

abbrev pub replay_calls : List ℕ → Verdict → List Call
replay_calls r v = starts_afresh ∷ submissions v.replayed (entries_of r)

pub record Replays (L : Ledger) (r : List ℕ) (g : Gone Found) : Type 0 where
  pub listed : Finding (verdict_of g.found) ⊎ (((verdict_of g.found).number ≡ 1) × ((verdict_of g.found).finding ≡ NOT_REPLAYED) × (g.left ≡ L))
  pub number : (verdict_of g.found).number ≡ (fresh L).number
  pub left : g.left ≡ after L (replay_calls r (verdict_of g.found))
  pub submitted :
      replayed_in (differs g.found) (verdict_of g.found).answered (verdict_of g.found).replayed (entries_of r)
      ≡ answered_on L (replay_calls r (verdict_of g.found))

-- so it is heard as those calls are
pub heard_as : (L : Ledger) (r : List ℕ) (g : Gone Found) → Replays L r g
    → (begun (verdict_of g.found).number ∷ events (replayed_in (differs g.found) (verdict_of g.found).answered (verdict_of g.found).replayed (entries_of r)))
    ≡ said L (replay_calls r (verdict_of g.found))
heard_as L r g a =
    ap₂ (λ (n : ℕ) (l : List Event). begun n ∷ l) a.number (ap events a.submitted ∙ heard_so (started L) (verdict_of g.found).replayed (entries_of r))

replays_on : (L : Ledger) (r : List ℕ) → (fresh L).number ≡ 0 → (g : Gone Found) → AsCalls (started L) 0 (entries_of r) g → Replays L r g
replays_on L r z g c =
    let k : c.count ≡ (verdict_of g.found).replayed = omega (arith, c.replayed) in
    record {
      listed = inl c.finding;
      number = c.finding.number ∙ sym z;
      left = c.left ∙ ap (λ (n : ℕ). after (started L) (submissions n (entries_of r))) k;
      submitted =
          subst
          (λ (n : ℕ). replayed_in (differs g.found) (verdict_of g.found).answered n (entries_of r) ≡ answered_on (started L) (submissions n (entries_of r))) k
          c.submitted;
    }

pub replays : (L : Ledger) (r : List ℕ) → Replays L r (replay submit L r)
unfolding replay replay_on
replays L r =
    cond_case (Replays L r) (lengths_right L) (replay_on submit (started L) r) (gone WrongLength L)
    (λ right. replays_on L r (fresh_zero L right) _ (as_calls (cut_short r) 0 (started L) (entries_of r)))
    (λ wrong.
    let o = sym (fresh_wrong L wrong) in
    record { listed = inr (refl, refl, refl); number = ap (λ (o : Outcome). o.number) o; left = ap (λ (o : Outcome). o.left) o; submitted = refl })

pub replay_answers : ReplayAnswers
unfolding replay replay_on
replay_answers L r =
    cond_case
    (λ (g : Gone Found).
    ((lengths_right L ≡ true) × ((verdict_of g.found).number ≡ 0))
    ⊎ ((lengths_right L ≡ false) × (told g ≡ gone (verdict 1 NOT_REPLAYED 0 (answer 0 0) (answer 0 0)) L)))
    (lengths_right L) (replay_on submit (started L) r) (gone WrongLength L)
    (λ right. inl (right, (as_calls (cut_short r) 0 (started L) (entries_of r)).finding.number)) (λ wrong. inr (wrong, refl))
