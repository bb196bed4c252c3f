-- A CONVERTED RECORDING REPLAYS as the old one does under the old form: entry by entry, from two ledgers that are the same at the start and that each
-- entry leaves differing in the journal's operation word of replies only.
use mathlib.Core.Path.{◌≡◌, refl, sym, ap, ap₂, ◌∙◌, subst, subst₂}
use mathlib.Core.Logic.{inl}
use mathlib.Core.List.{List, [], ◌∷◌, map}
use mathlib.Core.Bool.{Bool, not}
use Prim.Native.Nat.{ℕ, ◌%◌}
use lib.Dec.{eqb}
use Rattle.rules.specs.Limits.{ENTRY_BYTES}
use Rattle.rules.specs.Ledger.{Ledger, Outcome, lengths_right}
use Rattle.rules.specs.Submit.{submit}
use Rattle.rules.specs.Recording.{Entry, entries_of, records_of, cut_short}
use Rattle.rules.specs.Replay.{Next, on, stop, stop_before, Gone, further, through, answer, compared, ended, replay_on, replay, ledger_after}
use Rattle.rules.specs.Convert.{convert_record, convert_entry, converted}
use Rattle.rules.specs.Converted.{old_rule, DifferInReplies, AnswersAlike, answers_from, ConvertedReplays}
use Rattle.rules.specs.Promises.{started}
use Rattle.rules.specs.declared.Answer.{Answer}
use Rattle.rules.specs.declared.Found.{Found}
use Rattle.rules.proofs.Agree.{cond_rel}
use Rattle.convert.proofs.Entries.{converting_keeps}
use Rattle.convert.proofs.Settles.{differ_with, converted_settles}

-- a ledger, and itself
differ_not : (L : Ledger) → DifferInReplies L L
differ_not L = differ_with L L.journal (record { lengths = refl; words = λ p. inl refl })

-- ---- entries converted one by one

answers_alike : (es : List Entry) (K L : Ledger) → DifferInReplies K L
    → answers_from submit L (records_of (map convert_entry es)) ≡ answers_from old_rule K (records_of es)
answers_alike [] K L d = refl
answers_alike (e ∷ es) K L d =
    let s = converted_settles K L d e.bytes in
    ap₂ (λ (x : Answer) (xs : List Answer). x ∷ xs) (ap₂ answer (sym s.number) (sym s.word)) (answers_alike es _ _ s.left)

after_alike : (es : List Entry) (K L : Ledger) → DifferInReplies K L
    → DifferInReplies (ledger_after old_rule K (records_of es)) (ledger_after submit L (records_of (map convert_entry es)))
after_alike [] K L d = d
after_alike (e ∷ es) K L d = after_alike es _ _ (converted_settles K L d e.bytes).left

-- what the two replays find, and leave
record GoneAlike (g h : Gone Found) : Type 0 where
  found : h.found ≡ g.found
  left : DifferInReplies g.left h.left

-- by what is said of an entry: on with the rest, or the end
further_alike : (f g : ℕ → Gone Found) → ((n : ℕ) → GoneAlike (f n) (g n)) → (K L M N : Ledger) → DifferInReplies K L → DifferInReplies M N
    → (x : Next ℕ Found) → GoneAlike (further f K M x) (further g L N x)
further_alike f g rest K L M N before after (on n) = rest n
further_alike f g rest K L M N before after (stop b) = record { found = refl; left = after }
further_alike f g rest K L M N before after (stop_before b) = record { found = refl; left = before }

-- the same is said of an entry and of the converted one, if they are answered the same
said_alike : (n : ℕ) (K L : Ledger) (e : Entry) (o p : Outcome) → AnswersAlike o p → compared n K e o ≡ compared n L (convert_entry e) p
unfolding compared
said_alike n K L e o p s = rw (s.number, s.word)

through_alike : (cut : Bool) (n : ℕ) (es : List Entry) (K L : Ledger) → DifferInReplies K L
    → GoneAlike (through old_rule compared (ended cut) n K es) (through submit compared (ended cut) n L (map convert_entry es))
unfolding through
through_alike cut n [] K L d = record { found = refl; left = d }
through_alike cut n (e ∷ es) K L d =
    let s = converted_settles K L d e.bytes in
    rw (said_alike n K L e _ _ s)
    (further_alike _ _ (λ m. through_alike cut m es _ _ s.left) K L _ _ d s.left (compared n L (convert_entry e) (submit L (convert_record e.bytes))))

-- ---- a recording

module _ (r : List ℕ) where
  cut_same : cut_short r ≡ cut_short (converted r)
  cut_same = ap (λ (n : ℕ). not (eqb (n % ENTRY_BYTES) 0)) (sym (converting_keeps r).length)

  on_alike : (L : Ledger) → GoneAlike (replay_on old_rule L r) (replay_on submit L (converted r))
  unfolding replay_on
  on_alike L =
      subst₂ (λ (cut : Bool) (es : List Entry). GoneAlike (replay_on old_rule L r) (through submit compared (ended cut) 0 L es)) cut_same
      (sym (converting_keeps r).entries) (through_alike (cut_short r) 0 (entries_of r) L L (differ_not L))

  replay_alike : (L : Ledger) → GoneAlike (replay old_rule L r) (replay submit L (converted r))
  unfolding replay
  replay_alike L =
      cond_rel GoneAlike (lengths_right L) (lengths_right L) _ _ _ _ refl (λ e. on_alike (started L)) (λ e. record { found = refl; left = differ_not L })

pub converted_replays : ConvertedReplays
converted_replays L r =
    let K : Ledger = started L in
    let es : entries_of (converted r) ≡ map convert_entry (entries_of r) = (converting_keeps r).entries in
    record {
      answers = ap (λ (l : List Entry). answers_from submit K (records_of l)) es ∙ answers_alike (entries_of r) K K (differ_not K);
      after =
          subst (λ (l : List Entry). DifferInReplies (ledger_after old_rule K (records_of (entries_of r))) (ledger_after submit K (records_of l))) (sym es)
          (after_alike (entries_of r) K K (differ_not K));
      found = (replay_alike r L).found;
      left = (replay_alike r L).left;
    }
