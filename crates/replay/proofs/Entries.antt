-- The loop of the replay, over plain values: an entry as the code reads it, what its comparison says, and the way on. The fold itself is in
-- rules/proofs/Through.
use Rattle.std.specs.Prelude.{Result}
use mathlib.Core.Path.{◌≡◌, refl, sym, ap, ◌∙◌, subst}
use mathlib.Core.List.{List}
use mathlib.Core.Bool.{Bool, true, false, not, ◌&&◌}
use mathlib.Core.Logic.{◌≢◌}
use Prim.Native.Nat.{ℕ, ◌+◌, ◌-◌, ◌*◌, ◌%◌, ◌<◌}
use native.Mathlib.Omega.{arith}
use lib.Dec.{eqb}
use lib.ListN.{get_or, length, take, drop}
use borrow.Author.Tests.{eq-eqb, ne_eqb}
use Rattle.rules.specs.Limits.{RECORD_BYTES, ENTRY_BYTES, ANSWER_AT, WORD_AT}
use Rattle.rules.specs.Ledger.{Ledger, Outcome, outcome, Sized}
use Rattle.rules.specs.Numbers.{as_number, word_of, answer_to}
use Rattle.rules.specs.Record.{le_at}
use Rattle.rules.specs.Recording.{Entry, entry_at, whole_entries, cut_short}
use Rattle.rules.specs.Replay.{on, stop, gone, answer, agrees, compared, ended, replay_on}
use Rattle.rules.specs.Sound.{Ready}
use Rattle.rules.specs.Submit.{submit}
use Rattle.rules.specs.declared.Answer.{Answer}
use Rattle.rules.specs.declared.Found.{Found}
use Rattle.rules.specs.declared.Found.TheVariants.{AllAgree, CutShort, Disagrees}
use Rattle.rules.specs.declared.refusal.Refusal.{Refusal}
use Rattle.rules.proofs.Bools.{not_true_false, not_false_true}
use Rattle.rules.proofs.Ready.{ready_stays}
use Rattle.rules.proofs.Through.{bytes_read, Going, going_none, goes_on, stops, ends}

-- ---- the end

pub end_cut : (r : List ℕ) (n : ℕ) → length r % ENTRY_BYTES ≢ 0 → CutShort n ≡ ended (cut_short r) n
unfolding ended
end_cut r n h = rw (ne_eqb _ _ h)

pub end_agrees : (r : List ℕ) (n : ℕ) → length r % ENTRY_BYTES ≡ 0 → AllAgree n ≡ ended (cut_short r) n
unfolding ended
end_agrees r n h = rw (eq-eqb _ _ h)

-- ---- an entry

-- its recorded answer
answer_read : (r : List ℕ) (k : ℕ) → answer (entry_at r k).number (entry_at r k).word ≡ answer (get_or r (k * ENTRY_BYTES + ANSWER_AT) 0) (le_at 8 r (k * ENTRY_BYTES + WORD_AT))
unfolding entry_at
answer_read r k = refl

-- what is said of it
says_on : (n : ℕ) (L : Ledger) (e : Entry) (o : Outcome) → agrees e o ≡ true → compared n L e o ≡ on (n + 1)
unfolding compared
says_on n L e o t = rw t

says_stop : (n : ℕ) (L : Ledger) (e : Entry) (o : Outcome) → agrees e o ≡ false → compared n L e o ≡ stop (Disagrees (n + 1) (answer e.number e.word) (answer o.number o.word))
unfolding compared
says_stop n L e o t = rw t

-- ---- the loop

-- k entries agree, and left these tables, which are ready for the next
pub record Replaying (r : List ℕ) (first : Ledger) (k : ℕ) (L : Ledger) : Type 0 where
  pub going : Going submit compared (ended (cut_short r)) r (replay_on submit first r) k k L
  pub ready : Ready L

pub replaying_none : (r : List ℕ) (L : Ledger) → Ready L → Replaying r L 0 L
unfolding replay_on
replaying_none r L ready = record { going = going_none submit compared (ended (cut_short r)) r 0 L; ready = ready }

-- entry k as the code has read and submitted it: its answer in numbers
pub record Turn (r : List ℕ) (k : ℕ) (L : Ledger) (recorded answered : Answer) (left : Ledger) : Type 0 where
  pub read : recorded ≡ answer (get_or r (k * ENTRY_BYTES + ANSWER_AT) 0) (le_at 8 r (k * ENTRY_BYTES + WORD_AT))
  pub given : outcome answered.number answered.word left ≡ submit L (take (k * ENTRY_BYTES + RECORD_BYTES - k * ENTRY_BYTES) (drop (k * ENTRY_BYTES) r))

pub in_numbers : (step : Result ℕ Refusal) {answered : Answer} {left : Ledger} {o : Outcome} → answered ≡ answer_to step
    → outcome (as_number step) (word_of step) left ≡ o → outcome answered.number answered.word left ≡ o
in_numbers step {left = left} told given = ap (λ (a : Answer). outcome a.number a.word left) told ∙ given

module _ (r : List ℕ) {first : Ledger} (k : ℕ) {L : Ledger} (replaying : Replaying r first k L) (h : k < whole_entries r) {recorded answered : Answer} {left : Ledger} (turn : Turn r k L recorded answered left) {differ : Bool} (tested : differ ≡ not (eqb recorded.number answered.number && eqb recorded.word answered.word)) where
  abbrev o : Outcome
  o = outcome answered.number answered.word left

  is_given : o ≡ submit L (entry_at r k).bytes
  is_given = turn.given ∙ ap (submit L) (sym (bytes_read r k))

  is_read : answer (entry_at r k).number (entry_at r k).word ≡ recorded
  is_read = answer_read r k ∙ sym turn.read

  -- the code's comparison is the definition's
  same_test : agrees (entry_at r k) o ≡ eqb recorded.number answered.number && eqb recorded.word answered.word
  same_test = ap (λ (a : Answer). eqb a.number answered.number && eqb a.word answered.word) is_read

  pub one_more : Sized L.edition → differ ≡ false → Replaying r first (k + 1) left
  one_more sized t = record {
    going =
        goes_on submit compared (ended (cut_short r)) r k replaying.going h o (k + 1) is_given
        (says_on k L (entry_at r k) o (same_test ∙ not_false_true (eqb recorded.number answered.number && eqb recorded.word answered.word) (sym tested ∙ t)));
    ready = subst (λ (x : Outcome). Ready x.left) (sym is_given) (ready_stays L sized.header sized.escrow replaying.ready (entry_at r k).bytes);
  }

  pub disagrees : differ ≡ true → gone (Disagrees (k + 1) recorded answered) left ≡ replay_on submit first r
  disagrees t =
      ap (λ (a : Answer). gone (Disagrees (k + 1) a answered) left) (sym is_read)
      ∙ stops submit compared (ended (cut_short r)) r k replaying.going h o _ is_given
      (says_stop k L (entry_at r k) o (same_test ∙ not_true_false (eqb recorded.number answered.number && eqb recorded.word answered.word) (sym tested ∙ t)))

pub all_done : (r : List ℕ) {first : Ledger} (k : ℕ) {L : Ledger} {x : Found} → Replaying r first k L → k ≡ whole_entries r → x ≡ ended (cut_short r) (whole_entries r)
    → gone x L ≡ replay_on submit first r
all_done r k {L} replaying h e =
    ap (λ (x : Found). gone x L) (e ∙ ap (ended (cut_short r)) (sym h)) ∙ ends submit compared (ended (cut_short r)) r k replaying.going (omega arith)
