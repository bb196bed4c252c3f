-- The fold over entries (specs/Replay `through`), one entry further: what holds whatever the rule, whatever is said of each entry and at the end.
-- A loop that goes through a recording keeps `Going`, and each of its ways on is one law here.
use mathlib.Core.Path.{◌≡◌, refl, sym, ap, ◌∙◌}
use mathlib.Core.List.{List, [], ◌∷◌}
use Prim.Native.Nat.{ℕ, suc, ◌+◌, ◌-◌, ◌*◌, ◌≤◌, ◌<◌}
use native.Mathlib.Omega.{arith}
use lib.ListN.{take, drop}
use Rattle.rules.specs.Limits.{RECORD_BYTES, ENTRY_BYTES}
use Rattle.rules.specs.Ledger.{Ledger, Outcome}
use Rattle.rules.specs.Recording.{Entry, entry_at, entries_from, whole_entries, entries_of}
use Rattle.rules.specs.Replay.{Rule, Next, on, stop, stop_before, Gone, gone, further, through}

-- ---- the entries of a recording, from one on: the first of them, and none

pub entries_more : (r : List ℕ) (n k : ℕ) → k < n → entries_from r (n - k) k ≡ entry_at r k ∷ entries_from r (n - (k + 1)) (k + 1)
unfolding entries_from
entries_more r n k h =
    let e : n - k ≡ suc (n - (k + 1)) = omega arith in
    ap (λ (m : ℕ). entries_from r m k) e

pub entries_none : (r : List ℕ) (n k : ℕ) → n ≤ k → entries_from r (n - k) k ≡ []
unfolding entries_from
entries_none r n k h =
    let e : n - k ≡ 0 = omega arith in
    ap (λ (m : ℕ). entries_from r m k) e

-- the record's bytes of an entry, as a part of the recording from its place on
pub bytes_read : (r : List ℕ) (k : ℕ) → (entry_at r k).bytes ≡ take (k * ENTRY_BYTES + RECORD_BYTES - k * ENTRY_BYTES) (drop (k * ENTRY_BYTES) r)
unfolding entry_at
bytes_read r k =
    let e : RECORD_BYTES ≡ k * ENTRY_BYTES + RECORD_BYTES - k * ENTRY_BYTES = omega arith in
    ap (λ (m : ℕ). take m (drop (k * ENTRY_BYTES) r)) e

module _ {A B : Type 0} (rule : Rule) (say : A → Ledger → Entry → Outcome → Next A B) (end : A → B) where
  -- ---- an entry and those behind it, by what is said of it

  pub through_none : (kept : A) (L : Ledger) → through rule say end kept L [] ≡ gone (end kept) L
  unfolding through
  through_none kept L = refl

  pub through_one : (kept : A) (L : Ledger) (e : Entry) (es : List Entry) (o : Outcome) (next : Next A B) → o ≡ rule L e.bytes → say kept L e o ≡ next
      → through rule say end kept L (e ∷ es) ≡ further (λ a. through rule say end a o.left es) L o.left next
  unfolding through
  through_one kept L e es o next given said =
      ap (λ (x : Outcome). further (λ a. through rule say end a x.left es) L x.left (say kept L e x)) (sym given)
      ∙ ap (further (λ a. through rule say end a o.left es) L o.left) said

  -- ---- k entries of a recording gone through, with this kept and these tables left: the rest of it gives the whole

  pub record Going (r : List ℕ) (whole : Gone B) (k : ℕ) (kept : A) (L : Ledger) : Type 0 where
    pub within : k ≤ whole_entries r
    pub same : through rule say end kept L (entries_from r (whole_entries r - k) k) ≡ whole

  pub going_none : (r : List ℕ) (kept : A) (L : Ledger) → Going r (through rule say end kept L (entries_of r)) 0 kept L
  going_none r kept L =
      let e : whole_entries r - 0 ≡ whole_entries r = omega arith in
      record { within = omega arith; same = ap (λ (m : ℕ). through rule say end kept L (entries_from r m 0)) e }

  module _ (r : List ℕ) {whole : Gone B} (k : ℕ) {kept : A} {L : Ledger} (going : Going r whole k kept L) where
    -- entry k is there: the whole is what is said of it and, if anything, of those behind it
    turned : k < whole_entries r → (o : Outcome) (next : Next A B) → o ≡ rule L (entry_at r k).bytes → say kept L (entry_at r k) o ≡ next
        → further (λ a. through rule say end a o.left (entries_from r (whole_entries r - (k + 1)) (k + 1))) L o.left next ≡ whole
    turned h o next given said =
        sym (ap (through rule say end kept L) (entries_more r (whole_entries r) k h) ∙ through_one kept L (entry_at r k) _ o next given said)
        ∙ going.same

    pub goes_on : k < whole_entries r → (o : Outcome) (a : A) → o ≡ rule L (entry_at r k).bytes → say kept L (entry_at r k) o ≡ on a
        → Going r whole (k + 1) a o.left
    goes_on h o a given said = record { within = omega arith; same = turned h o (on a) given said }

    pub stops : k < whole_entries r → (o : Outcome) (b : B) → o ≡ rule L (entry_at r k).bytes → say kept L (entry_at r k) o ≡ stop b
        → gone b o.left ≡ whole
    stops h o b given said = turned h o (stop b) given said

    pub stops_before : k < whole_entries r → (o : Outcome) (b : B) → o ≡ rule L (entry_at r k).bytes → say kept L (entry_at r k) o ≡ stop_before b
        → gone b L ≡ whole
    stops_before h o b given said = turned h o (stop_before b) given said

    -- no entry is left
    pub ends : whole_entries r ≤ k → gone (end kept) L ≡ whole
    ends h =
        sym (ap (through rule say end kept L) (entries_none r (whole_entries r) k h) ∙ through_none kept L) ∙ going.same
