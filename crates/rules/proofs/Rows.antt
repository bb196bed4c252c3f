-- What the row tables share, once for every row length: a word set, another row, another column, a new row, room in the table.
use mathlib.Core.Path.{◌≡◌, refl, sym, ap, ◌∙◌, subst}
use mathlib.Core.Logic.{◌≢◌}
use mathlib.Core.List.{List, [], ◌∷◌, ◌++◌, append-nil}
use Prim.Native.Nat.{ℕ, zero, suc, ◌+◌, ◌*◌, ◌/◌, ◌≤◌, ◌<◌}
use native.Mathlib.Nat.{not-suc-le-zero, mul-le-mul_right, div-mul-le_self, le_trans, suc-mul, add-zero}
use native.Mathlib.Omega.{arith}
use native.Mathlib.Decide.{ℕ_discrete, dec_lt}
use lib.ListN.{get_or, set, length, length-set, replicate, drop_of_length-le}
use lib.Seq.{sets, sets-eq, length-sets, get_or-set_same, get_or-set_other, set_out}
use lib.Arith.{digits_div}
use Rattle.rules.specs.Table.{word, put, put_row, rows_in}

-- a word's place says its row and its column
pub row_of : (len i j c d : ℕ) → c < len → d < len → i * len + c ≡ j * len + d → i ≡ j
row_of len i j c d hc hd e = sym (digits_div i hc) ∙ ap (λ (x : ℕ). x / len) e ∙ digits_div j hd

pub col_of : (len i j c d : ℕ) → c < len → d < len → i * len + c ≡ j * len + d → c ≡ d
col_of len i j c d hc hd e =
    let r : i ≡ j = row_of len i j c d hc hd e in
    let f : j * len + c ≡ j * len + d = subst (λ (x : ℕ). x * len + c ≡ j * len + d) r e in
    omega arith

-- rows that are within the table have their words there
pub rows_fit : (len n : ℕ) (t : List ℕ) → n ≤ rows_in len t → n * len ≤ length t
rows_fit len n t h = le_trans (mul-le-mul_right len h) (div-mul-le_self (length t) len)

-- one more row fits where not every row is written
pub room : (len n : ℕ) (t : List ℕ) → n < rows_in len t → n * len + len ≤ length t
room len n t h = let e : suc n * len ≡ n * len + len = suc-mul n len in subst (λ (x : ℕ). x ≤ length t) e (rows_fit len (suc n) t h)

-- a written row ends within the table, and a word of it has a place
pub row_end : (len n i : ℕ) (t : List ℕ) → n * len ≤ length t → i < n → i * len + len ≤ length t
row_end len n i t h hi =
    let e : suc i * len ≡ i * len + len = suc-mul i len in
    let m : suc i * len ≤ n * len = mul-le-mul_right len hi in
    omega arith

pub in_table : (len n i c : ℕ) (t : List ℕ) → n * len ≤ length t → i < n → c < len → i * len + c < length t
in_table len n i c t h hi hc = omega (arith, row_end len n i t h hi)

-- a word set: that word, another row, another column, the length
pub word_same : (t : List ℕ) (len i c v : ℕ) → i * len + c < length t → word (put t len i c v) len i c ≡ v
word_same t len i c v h = get_or-set_same t (i * len + c) v 0 h

pub word_row : (t : List ℕ) (len i c v j d : ℕ) → c < len → d < len → j ≢ i → word (put t len i c v) len j d ≡ word t len j d
word_row t len i c v j d hc hd ne = get_or-set_other t (i * len + c) (j * len + d) v 0 (λ e. ne (row_of len j i d c hd hc e))

pub word_col : (t : List ℕ) (len i c v j d : ℕ) → c < len → d < len → d ≢ c → word (put t len i c v) len j d ≡ word t len j d
word_col t len i c v j d hc hd ne = get_or-set_other t (i * len + c) (j * len + d) v 0 (λ e. ne (col_of len j i d c hd hc e))

pub length_put : (t : List ℕ) (len i c v : ℕ) → length (put t len i c v) ≡ length t
length_put t len i c v = length-set t (i * len + c) v

-- what holds of the old word and of the new holds of the word, wherever it is set
pub put_prop : (P : ℕ → Type 0) (t : List ℕ) (len i c v j : ℕ) → c < len → P (word t len j c) → P v → P (word (put t len i c v) len j c)
put_prop P t len i c v j c< old new = go (ℕ_discrete j i) (dec_lt (i * len + c) (length t))
  where
    go : Dec (j ≡ i) → Dec (i * len + c < length t) → P (word (put t len i c v) len j c)
    go (no e) d = subst P (sym (word_row t len i c v j c c< c< e)) old
    go (yes e) (yes h) = subst (λ (k : ℕ). P (word (put t len i c v) len k c)) (sym e) (subst P (sym (word_same t len i c v h)) new)
    go (yes e) (no h) = subst (λ (l : List ℕ). P (word l len j c)) (sym (set_out t (i * len + c) v (omega (arith, h)))) old

-- a run of stores
pub get_d_sets_before : (vs l : List ℕ) (i j : ℕ) → j < i → get_or (sets l i vs) j 0 ≡ get_or l j 0
get_d_sets_before [] l i j h = refl
get_d_sets_before (v ∷ vs) l i j h = get_d_sets_before vs (set l i v) (suc i) j (omega arith) ∙ get_or-set_other l i j v 0 (omega arith)

pub get_or_sets_in : (vs l : List ℕ) (i c : ℕ) → i + length vs ≤ length l → c < length vs → get_or (sets l i vs) (i + c) 0 ≡ get_or vs c 0
get_or_sets_in [] l i c h hc = absurd (not-suc-le-zero hc)
get_or_sets_in (v ∷ vs) l i zero h hc =
    let hi : i < length l = omega arith in
    let e : i + 0 ≡ i = omega arith in
    ap (λ (x : ℕ). get_or (sets (set l i v) (suc i) vs) x 0) e ∙ get_d_sets_before vs (set l i v) (suc i) i (omega arith) ∙ get_or-set_same l i v 0 hi
get_or_sets_in (v ∷ vs) l i (suc c) h hc =
    let e : i + suc c ≡ suc i + c = omega arith in
    ap (λ (x : ℕ). get_or (sets (set l i v) (suc i) vs) x 0) e
    ∙ get_or_sets_in vs (set l i v) (suc i) c (omega (arith, length-set l i v)) (omega arith)

-- two runs, one after the other; and a run as long as the list is the list
pub sets_append : (us vs l : List ℕ) (i : ℕ) → sets l i (us ++ vs) ≡ sets (sets l i us) (i + length us) vs
sets_append [] vs l i = ap (λ (k : ℕ). sets l k vs) (sym (add-zero i))
sets_append (u ∷ us) vs l i =
    let e : suc i + length us ≡ i + suc (length us) = omega arith in
    sets_append us vs (set l i u) (suc i) ∙ ap (λ (k : ℕ). sets (sets (set l i u) (suc i) us) k vs) e

pub sets_whole : (l vs : List ℕ) → length l ≡ length vs → sets l 0 vs ≡ vs
sets_whole l vs e =
    let fits : 0 + length vs ≤ length l = omega arith in
    let ends : length l ≤ 0 + length vs = omega arith in
    sets-eq vs l 0 fits ∙ ap (λ (x : List ℕ). vs ++ x) (drop_of_length-le l ends) ∙ append-nil vs

-- a new row: its words, the words of the rows before it, the length
pub word_new : (t : List ℕ) (len i c : ℕ) (vs : List ℕ) → i * len + length vs ≤ length t → c < length vs → word (put_row t len i vs) len i c ≡ get_or vs c 0
word_new t len i c vs h hc = get_or_sets_in vs t (i * len) c h hc

pub word_old : (t : List ℕ) (len i j c : ℕ) (vs : List ℕ) → j < i → c < len → word (put_row t len i vs) len j c ≡ word t len j c
word_old t len i j c vs h hc =
    let e : suc j * len ≡ j * len + len = suc-mul j len in
    let m : suc j * len ≤ i * len = mul-le-mul_right len h in
    get_d_sets_before vs t (i * len) (j * len + c) (omega arith)

pub length_put_row : (t : List ℕ) (len i : ℕ) (vs : List ℕ) → length (put_row t len i vs) ≡ length t
length_put_row t len i vs = length-sets t (i * len) vs

-- a word of zeros
pub zeros : (m c : ℕ) → ◌≡◌ {A = ℕ} (get_or (replicate m 0) c 0) 0
zeros zero c = refl
zeros (suc m) zero = refl
zeros (suc m) (suc c) = zeros m c
