-- Laws of two tables that have the same words in their first n rows: a word of such a row, a word set in both, and a new row in both. Places are
-- counted in words (`get_or t p 0`), so no law needs the arithmetic of rows and columns, and past the end of both tables the words are 0.
use mathlib.Core.Path.{◌≡◌, refl, sym, ap, ◌∙◌, subst}
use mathlib.Core.Logic.{◌≢◌}
use mathlib.Core.List.{List, [], ◌∷◌}
use Prim.Native.Nat.{ℕ, suc, ◌+◌, ◌*◌, ◌≤◌, ◌<◌}
use native.Mathlib.Nat.{mul-le-mul_right, suc-mul}
use native.Mathlib.Numerals.{add-one}
use native.Mathlib.Decide.{ℕ_discrete, dec_lt}
use native.Mathlib.Omega.{arith}
use lib.ListN.{get_or, set, length, length-set, get_or-eq_default}
use lib.Seq.{sets, get_or-set_same, get_or-set_other}
use Rattle.rules.specs.Table.{word, put, put_row}
use Rattle.rules.specs.Same.{SameRows}

-- ---- a word

pub same_word : (len n : ℕ) (s t : List ℕ) → SameRows len n s t → (i : ℕ) → i < n → (k : ℕ) → k < len → word s len i k ≡ word t len i k
same_word len n s t a i i< k k< =
    let e : suc i * len ≡ i * len + len = suc-mul i len in
    let m : suc i * len ≤ n * len = mul-le-mul_right len i< in
    a.words (i * len + k) (omega arith)

-- set in both at one place: the word at j is the same if the values are, or it was
set_both : (s t : List ℕ) → length s ≡ length t → (p v w j : ℕ) → (j ≡ p → v ≡ w) → (j ≢ p → get_or s j 0 ≡ get_or t j 0)
    → get_or (set s p v) j 0 ≡ get_or (set t p w) j 0
set_both s t e p v w j here other = go (ℕ_discrete j p) (dec_lt p (length t))
  where
    go : Dec (j ≡ p) → Dec (p < length t) → get_or (set s p v) j 0 ≡ get_or (set t p w) j 0
    go (no ne) d = get_or-set_other s p j v 0 ne ∙ other ne ∙ sym (get_or-set_other t p j w 0 ne)
    go (yes x) (yes l) =
        ap (λ (k : ℕ). get_or (set s p v) k 0) x ∙ get_or-set_same s p v 0 (omega (arith, e)) ∙ here x
        ∙ sym (get_or-set_same t p w 0 l) ∙ ap (λ (k : ℕ). get_or (set t p w) k 0) (sym x)
    go (yes x) (no l) =
        get_or-eq_default (set s p v) 0 (omega (arith, length-set s p v, e, l))
        ∙ sym (get_or-eq_default (set t p w) 0 (omega (arith, length-set t p w, l)))

set_lengths : (s t : List ℕ) → length s ≡ length t → (p v w : ℕ) → length (set s p v) ≡ length (set t p w)
set_lengths s t e p v w = length-set s p v ∙ e ∙ sym (length-set t p w)

-- the values need to be the same only if the row is one of the first n
pub same_put : (len n : ℕ) (s t : List ℕ) → SameRows len n s t → (i k v w : ℕ) → (i < n → v ≡ w) → SameRows len n (put s len i k v) (put t len i k w)
same_put len n s t a i k v w f = record {
  lengths = set_lengths s t a.lengths (i * len + k) v w;
  words = λ j h. set_both s t a.lengths (i * len + k) v w j (λ x. f (row (omega arith) (dec_lt i n))) (λ ne. a.words j h);
}
  where
    row : i * len + k < n * len → Dec (i < n) → i < n
    row h (yes l) = l
    row h (no l) = let m : n * len ≤ i * len = mul-le-mul_right len (omega (arith, l)) in absurd (omega arith)

-- ---- rows

-- fewer rows
pub same_less : (len n m : ℕ) (s t : List ℕ) → m ≤ n → SameRows len n s t → SameRows len m s t
same_less len n m s t h a = record { lengths = a.lengths; words = λ p l. a.words p (omega (arith, mul-le-mul_right len h)) }

-- the first m words are rows of one word; a run of stores behind them makes them more
more : (vs : List ℕ) (m : ℕ) (s t : List ℕ) → SameRows 1 m s t → SameRows 1 (m + length vs) (sets s m vs) (sets t m vs)
more [] m s t a = subst (λ (k : ℕ). SameRows 1 k s t) (omega arith) a
more (v ∷ vs) m s t a =
    subst (λ (k : ℕ). SameRows 1 k (sets (set s m v) (suc m) vs) (sets (set t m v) (suc m) vs)) (omega arith)
    (more vs (suc m) (set s m v) (set t m v)
    (record {
      lengths = set_lengths s t a.lengths m v v;
      words = λ j h. set_both s t a.lengths m v v j (λ x. refl) (λ ne. a.words j (omega (arith, ne)));
    }))

-- the row after the first n: a whole one
pub same_new : (len n : ℕ) (s t vs : List ℕ) → length vs ≡ len → SameRows len n s t → SameRows len (n + 1) (put_row s len n vs) (put_row t len n vs)
same_new len n s t vs whole a =
    let x : SameRows 1 (n * len + length vs) (put_row s len n vs) (put_row t len n vs) =
    more vs (n * len) s t (record { lengths = a.lengths; words = λ p h. a.words p (omega arith) }) in
    let e : suc n * len ≡ n * len + len = suc-mul n len in
    let f : (n + 1) * len ≡ suc n * len = ap (λ (k : ℕ). k * len) (add-one n) in
    record { lengths = x.lengths; words = λ p h. x.words p (omega arith) }
