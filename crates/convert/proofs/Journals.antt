-- Two journals that differ in the operation word of replies only. Whatever a submission is asked of a ledger is the same with either: signers,
-- nonces, amounts and times are, and of an operation it is asked only whether it is a transfer or an open. The new row of one submission
-- makes two such journals again.
use mathlib.Core.Path.{◌≡◌, refl, sym, ap, ap₂, ◌∙◌}
use mathlib.Core.Logic.{◌≢◌, ◌⊎◌, inl, inr}
use mathlib.Core.List.{List, [], ◌∷◌}
use mathlib.Core.Bool.{Bool, ◌&&◌, ◌||◌}
use Prim.Native.Nat.{ℕ, suc, ◌+◌, ◌*◌, ◌%◌, ◌<◌}
use native.Mathlib.Decide.{ℕ_discrete, dec_lt}
use native.Mathlib.Omega.{arith}
use lib.ListN.{get_or, set, length, length-set, get_or-eq_default}
use lib.Seq.{sets, get_or-set_same, get_or-set_other}
use lib.Dec.{eqb, lit<}
use Rattle.rules.specs.Limits.{JOURNAL_LEN, TRANSFER, OPEN, REPLY, OLD_DISPUTE, SIGNER, NONCE, OPERATION, ENTRY_AMOUNT, SETTLED_AT}
use Rattle.rules.specs.Table.{word, all}
use Rattle.rules.specs.Ledger.{Ledger, entry_count, lengths_right, set_journal}
use Rattle.rules.specs.Sound.{entry_tests, held_in, credits, sound}
use Rattle.rules.specs.Refusals.{one_of, paying, seen_in, seen, counted_of, counted, entry_refusals, envelope_refusals, operation_refusals_by}
use Rattle.rules.specs.declared.Form.{Form}
use Rattle.rules.specs.declared.Read.{Read}
use Rattle.rules.specs.declared.Submission.{Submission}
use Rattle.rules.proofs.Counts.{sum_ext, every_ext, some_ext}

-- the word at a place: the same, or a dispute's operation in the old form and in today's
abbrev pub Word : ℕ → ℕ → ℕ → Type 0
Word p v w = (v ≡ w) ⊎ ((p % JOURNAL_LEN ≡ OPERATION) × (v ≡ OLD_DISPUTE) × (w ≡ REPLY))

pub record Alike (s t : List ℕ) : Type 0 where
  pub lengths : length s ≡ length t
  pub words : (p : ℕ) → Word p (get_or s p 0) (get_or t p 0)

-- ---- one word

module _ (s t : List ℕ) (a : Alike s t) (i : ℕ) where
  -- any but the operation
  column : (k : ℕ) → k < JOURNAL_LEN → k ≢ OPERATION → word s JOURNAL_LEN i k ≡ word t JOURNAL_LEN i k
  column k k< ne = go (a.words (i * JOURNAL_LEN + k))
    where
      go : Word (i * JOURNAL_LEN + k) (word s JOURNAL_LEN i k) (word t JOURNAL_LEN i k) → word s JOURNAL_LEN i k ≡ word t JOURNAL_LEN i k
      go (inl e) = e
      go (inr x) = let at : (i * JOURNAL_LEN + k) % JOURNAL_LEN ≡ OPERATION = x.0 in absurd (omega (arith, ne))

  -- what is asked of the operation, if it is the same of a dispute in both forms
  asked : (f : ℕ → Bool) → f OLD_DISPUTE ≡ f REPLY → f (word s JOURNAL_LEN i OPERATION) ≡ f (word t JOURNAL_LEN i OPERATION)
  asked f h = go (a.words (i * JOURNAL_LEN + OPERATION))
    where
      go : Word (i * JOURNAL_LEN + OPERATION) (word s JOURNAL_LEN i OPERATION) (word t JOURNAL_LEN i OPERATION)
          → f (word s JOURNAL_LEN i OPERATION) ≡ f (word t JOURNAL_LEN i OPERATION)
      go (inl e) = ap f e
      go (inr x) = ap f x.1 ∙ h ∙ sym (ap f x.2)

-- ---- a ledger with either

module _ (K : Ledger) (j : List ℕ) (a : Alike K.journal j) where
  abbrev other : Ledger
  other = set_journal j K

  lengths_alike : lengths_right K ≡ lengths_right other
  unfolding lengths_right
  lengths_alike = rw a.lengths

  seen_alike : (signer nonce : ℕ) → seen K signer nonce ≡ seen other signer nonce
  unfolding seen seen_in
  seen_alike signer nonce =
      some_ext (entry_count K) _ _
      (λ i h. let c = column K.journal j a i in ap₂ (λ x y. eqb x signer && eqb y nonce) (c SIGNER (lit< tt) (omega arith)) (c NONCE (lit< tt) (omega arith)))

  counted_alike : (signer now : ℕ) → counted K signer now ≡ counted other signer now
  unfolding counted counted_of
  counted_alike signer now =
      sum_ext (entry_count K) _ _
      (λ i h.
      let c = column K.journal j a i in
      rw (
        c SIGNER (lit< tt) (omega arith),
        asked K.journal j a i (one_of paying) refl,
        c SETTLED_AT (lit< tt) (omega arith),
        c ENTRY_AMOUNT (lit< tt) (omega arith),
      ))

  entry_alike : (i : ℕ) → all (entry_tests K i) ≡ all (entry_tests other i)
  entry_alike i =
      let c = column K.journal j a i in
      rw (
        c SETTLED_AT (lit< tt) (omega arith),
        asked K.journal j a i (λ (x : ℕ). eqb x TRANSFER || eqb x OPEN) refl,
        c ENTRY_AMOUNT (lit< tt) (omega arith),
      )

  sound_alike : sound K ≡ sound other
  unfolding sound held_in credits
  sound_alike =
      rw (a.lengths, every_ext (entry_count K) (λ i. all (entry_tests K i)) (λ i. all (entry_tests other i)) (λ i h. entry_alike i))

  -- ---- the table of refusals

  pub entry_rows : (r : Read) → entry_refusals K r ≡ entry_refusals other r
  unfolding entry_refusals
  entry_rows r = rw (lengths_alike, sound_alike)

  pub envelope_rows : (s : Submission) → envelope_refusals K s ≡ envelope_refusals other s
  unfolding envelope_refusals
  envelope_rows s = rw (seen_alike s.signer s.nonce)

  pub operation_rows : (form : Form) (s : Submission) → operation_refusals_by form K s ≡ operation_refusals_by form other s
  unfolding operation_refusals_by
  operation_rows form s = rw (counted_alike s.signer s.now, a.lengths)

-- ---- a new row

-- one word set in both
pub set_alike : (s t : List ℕ) → Alike s t → (p v w : ℕ) → Word p v w → Alike (set s p v) (set t p w)
set_alike s t a p v w x = record {
  lengths = length-set s p v ∙ a.lengths ∙ sym (length-set t p w);
  words = λ q. go q (ℕ_discrete q p) (dec_lt p (length t));
}
  where
    at : (q : ℕ) (l m : List ℕ) {y z : ℕ} → get_or l q 0 ≡ y → get_or m q 0 ≡ z → Word q y z → Word q (get_or l q 0) (get_or m q 0)
    at q l m e f k = rw (e, f) k

    go : (q : ℕ) → Dec (q ≡ p) → Dec (p < length t) → Word q (get_or (set s p v) q 0) (get_or (set t p w) q 0)
    go q (no ne) d = at q (set s p v) (set t p w) (get_or-set_other s p q v 0 ne) (get_or-set_other t p q w 0 ne) (a.words q)
    go q (yes e) (yes l) =
        rw e (at p (set s p v) (set t p w) (get_or-set_same s p v 0 (omega (arith, a.lengths))) (get_or-set_same t p w 0 l) x)
    go q (yes e) (no l) =
        inl
        (get_or-eq_default (set s p v) 0 (omega (arith, length-set s p v, a.lengths, l))
        ∙ sym (get_or-eq_default (set t p w) 0 (omega (arith, length-set t p w, l))))

-- the same words set in both
pub sets_alike : (vs : List ℕ) (s t : List ℕ) → Alike s t → (p : ℕ) → Alike (sets s p vs) (sets t p vs)
sets_alike [] s t a p = a
sets_alike (v ∷ vs) s t a p = sets_alike vs (set s p v) (set t p v) (set_alike s t a p v v (inl refl)) (suc p)
