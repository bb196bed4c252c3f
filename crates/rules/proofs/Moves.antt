-- What the moves of settling do to the tables: more and less in a word of a wallet, credits moved from one word to another, a row of
-- escrows or receipts closed, and what the open escrows then hold. Each is one law over the columns; at named columns it computes.
use mathlib.Core.Path.{◌≡◌, refl, sym, ap, ap₂, ◌∙◌, subst}
use mathlib.Core.Logic.{◌≢◌}
use mathlib.Core.List.{List}
use mathlib.Core.Bool.{Bool, true, false, cond, ◌&&◌}
use Prim.Native.Nat.{ℕ, ◌+◌, ◌-◌, ◌*◌, ◌≤◌, ◌<◌}
use native.Mathlib.Omega.{arith}
use lib.ListN.{length}
use lib.Dec.{eqb, lit<}
use borrow.Author.Tests.{eqb-true, eqb-false, eq-eqb, ne_eqb}
use Rattle.rules.specs.Limits.{WALLET_LEN, ID, BALANCE, LOCKED, FROM, ESCROW_AMOUNT, ESCROW_STATE, ESCROW_CLOSED_AT, ESCROW_CLOSED_BY, IS_OPEN}
use Rattle.rules.specs.Table.{word, put, sum}
use Rattle.rules.specs.Ledger.{row_of}
use Rattle.rules.proofs.Rows.{in_table, word_same, word_row, word_col, length_put, put_prop}
use Rattle.rules.proofs.Counts.{sum_change}
use Rattle.rules.proofs.Accounts.{bal, total, bal_found, row_put, bal_put_col, bal_put, total_put, Distinct, distinct_put}

-- ---- more and less in a word of a wallet

abbrev pub up : List ℕ → ℕ → ℕ → ℕ → ℕ → List ℕ
up t n c id a = put t WALLET_LEN (row_of t n id) c (word t WALLET_LEN (row_of t n id) c + a)

abbrev pub down : List ℕ → ℕ → ℕ → ℕ → ℕ → List ℕ
down t n c id a = put t WALLET_LEN (row_of t n id) c (word t WALLET_LEN (row_of t n id) c - a)

-- what the word e of the wallet of v gains if a is added to the word c of the wallet of id
abbrev pub gain : ℕ → ℕ → ℕ → ℕ → ℕ → ℕ
gain c id a e v = cond (eqb e c && eqb v id) a 0

module _ (t : List ℕ) (n c id a : ℕ) (c< : c < WALLET_LEN) (c≢ : ID ≢ c) (fits : n * WALLET_LEN ≤ length t) (found : row_of t n id < n) where
  pub up_bal : (e v : ℕ) → e < WALLET_LEN → bal (up t n c id a) n v e ≡ bal t n v e + gain c id a e v
  up_bal e v e< = go (eqb e c) refl
    where
      x : ℕ
      x = word t WALLET_LEN (row_of t n id) c + a

      same : (b : Bool) → eqb v id ≡ b → cond b x (bal t n v c) ≡ bal t n v c + cond b a 0
      same true h = ap (λ (y : ℕ). y + a) (sym (ap (λ (u : ℕ). bal t n u c) (eqb-true v id h) ∙ bal_found t n id c found))
      same false h = omega arith

      go : (b : Bool) → eqb e c ≡ b → bal (up t n c id a) n v e ≡ bal t n v e + cond (b && eqb v id) a 0
      go true h =
          subst (λ (k : ℕ). bal (up t n c id a) n v k ≡ bal t n v k + cond (eqb v id) a 0) (sym (eqb-true e c h))
          (bal_put t n id c x c< c≢ fits found v ∙ same (eqb v id) refl)
      go false h = bal_put_col t n (row_of t n id) c x c< c≢ v e e< (eqb-false e c h) ∙ omega arith

  pub down_bal : a ≤ bal t n id c → (e v : ℕ) → e < WALLET_LEN → bal (down t n c id a) n v e + gain c id a e v ≡ bal t n v e
  down_bal enough e v e< = go (eqb e c) refl
    where
      x : ℕ
      x = word t WALLET_LEN (row_of t n id) c - a

      same : (b : Bool) → eqb v id ≡ b → cond b x (bal t n v c) + cond b a 0 ≡ bal t n v c
      same true h =
          let f : bal t n id c ≡ word t WALLET_LEN (row_of t n id) c = bal_found t n id c found in
          let g : bal t n v c ≡ bal t n id c = ap (λ (u : ℕ). bal t n u c) (eqb-true v id h) in
          omega (arith, enough, f, g)
      same false h = omega arith

      go : (b : Bool) → eqb e c ≡ b → bal (down t n c id a) n v e + cond (b && eqb v id) a 0 ≡ bal t n v e
      go true h =
          subst (λ (k : ℕ). bal (down t n c id a) n v k + cond (eqb v id) a 0 ≡ bal t n v k) (sym (eqb-true e c h))
          (ap (λ (y : ℕ). y + cond (eqb v id) a 0) (bal_put t n id c x c< c≢ fits found v) ∙ same (eqb v id) refl)
      go false h = omega (arith, bal_put_col t n (row_of t n id) c x c< c≢ v e e< (eqb-false e c h))

module _ (t : List ℕ) (n c id a : ℕ) (low : BALANCE ≤ c) (high : c ≤ LOCKED) (fits : n * WALLET_LEN ≤ length t) (found : row_of t n id < n) where
  pub up_total : total (up t n c id a) n ≡ total t n + a
  up_total = omega (arith, total_put t n (row_of t n id) c (word t WALLET_LEN (row_of t n id) c + a) low high fits found)

  pub down_total : a ≤ bal t n id c → total (down t n c id a) n + a ≡ total t n
  down_total enough = omega (arith, total_put t n (row_of t n id) c (word t WALLET_LEN (row_of t n id) c - a) low high fits found, bal_found t n id c found)

-- ---- credits moved: a from the word c of the wallet of f to the word d of the wallet of r

abbrev pub mv : List ℕ → ℕ → ℕ → ℕ → ℕ → ℕ → ℕ → List ℕ
mv t n c f d r a = up (down t n c f a) n d r a

pub length_mv : (t : List ℕ) (n c f d r a : ℕ) → length (mv t n c f d r a) ≡ length t
length_mv t n c f d r a = length_put (down t n c f a) WALLET_LEN _ d _ ∙ length_put t WALLET_LEN _ c _

module _ (t : List ℕ) (n c f d r a : ℕ) (c< : c < WALLET_LEN) (c≢ : ID ≢ c) (d< : d < WALLET_LEN) (d≢ : ID ≢ d) where
  pub row_mv : (v : ℕ) → row_of (mv t n c f d r a) n v ≡ row_of t n v
  row_mv v = row_put (down t n c f a) n _ d _ d< d≢ v ∙ row_put t n _ c _ c< c≢ v

  pub distinct_mv : Distinct t n → Distinct (mv t n c f d r a) n
  distinct_mv h = distinct_put (down t n c f a) n (row_of (down t n c f a) n r) d _ d< d≢ (distinct_put t n (row_of t n f) c _ c< c≢ h)

  pub mv_col : (j e : ℕ) → e < WALLET_LEN → e ≢ c → e ≢ d → word (mv t n c f d r a) WALLET_LEN j e ≡ word t WALLET_LEN j e
  mv_col j e e< ec ed = word_col (down t n c f a) WALLET_LEN _ d _ j e d< e< ed ∙ word_col t WALLET_LEN _ c _ j e c< e< ec

module _ (t : List ℕ) (n c f d r a : ℕ) (c_low : BALANCE ≤ c) (c_high : c ≤ LOCKED) (d_low : BALANCE ≤ d) (d_high : d ≤ LOCKED)
    (fits : n * WALLET_LEN ≤ length t) (f_row : row_of t n f < n) (r_row : row_of t n r < n) (enough : a ≤ bal t n f c) where
  fits_down : n * WALLET_LEN ≤ length (down t n c f a)
  fits_down = subst (λ (k : ℕ). n * WALLET_LEN ≤ k) (sym (length_put t WALLET_LEN (row_of t n f) c _)) fits

  row_down : row_of (down t n c f a) n r < n
  row_down = subst (λ (k : ℕ). k < n) (sym (row_put t n (row_of t n f) c _ (omega arith) (omega arith) r)) r_row

  pub mv_bal : (e v : ℕ) → e < WALLET_LEN → bal (mv t n c f d r a) n v e + gain c f a e v ≡ bal t n v e + gain d r a e v
  mv_bal e v e< =
      let x = up_bal (down t n c f a) n d r a (omega arith) (omega arith) fits_down row_down e v e< in
      let y = down_bal t n c f a (omega arith) (omega arith) fits f_row enough e v e< in
      omega arith

  pub mv_total : total (mv t n c f d r a) n ≡ total t n
  mv_total = up_total (down t n c f a) n d r a d_low d_high fits_down row_down ∙ down_total t n c f a c_low c_high fits f_row enough

-- ---- a row closed: three of its words set

abbrev pub shut : List ℕ → ℕ → ℕ → ℕ → ℕ → ℕ → ℕ → ℕ → ℕ → List ℕ
shut t len i c x d y e z = put (put (put t len i c x) len i d y) len i e z

module _ (t : List ℕ) (len i c x d y e z : ℕ) (c< : c < len) (d< : d < len) (e< : e < len) where
  one : List ℕ
  one = put t len i c x

  two : List ℕ
  two = put one len i d y

  pub shut_col : (j k : ℕ) → k < len → k ≢ c → k ≢ d → k ≢ e → word (shut t len i c x d y e z) len j k ≡ word t len j k
  unfolding one two
  shut_col j k k< a b g = word_col two len i e z j k e< k< g ∙ word_col one len i d y j k d< k< b ∙ word_col t len i c x j k c< k< a

  pub shut_row : (j k : ℕ) → k < len → j ≢ i → word (shut t len i c x d y e z) len j k ≡ word t len j k
  unfolding one two
  shut_row j k k< ne = word_row two len i e z j k e< k< ne ∙ word_row one len i d y j k d< k< ne ∙ word_row t len i c x j k c< k< ne

  pub shut_same : c ≢ d → c ≢ e → i * len + c < length t → word (shut t len i c x d y e z) len i c ≡ x
  unfolding one two
  shut_same a b h = word_col two len i e z i c e< c< b ∙ word_col one len i d y i c d< c< a ∙ word_same t len i c x h

  pub length_shut : length (shut t len i c x d y e z) ≡ length t
  unfolding one two
  length_shut = length_put two len i e z ∙ length_put one len i d y ∙ length_put t len i c x

  -- what holds of the old word and of the new holds of the word, in every row
  pub shut_first : (P : ℕ → Type 0) (j : ℕ) → c ≢ d → c ≢ e → P (word t len j c) → P x → P (word (shut t len i c x d y e z) len j c)
  unfolding one two
  shut_first P j a b old new = subst P (sym (word_col two len i e z j c e< c< b ∙ word_col one len i d y j c d< c< a)) (put_prop P t len i c x j c< old new)

  pub shut_second : (P : ℕ → Type 0) (j : ℕ) → d ≢ c → d ≢ e → P (word t len j d) → P y → P (word (shut t len i c x d y e z) len j d)
  unfolding one two
  shut_second P j a b old new =
      subst P (sym (word_col two len i e z j d e< d< b)) (put_prop P one len i d y j d< (subst P (sym (word_col t len i c x j d c< d< a)) old) new)

-- ---- what open escrows hold

-- escrow i of a table holds of the wallet of v: the text of `held_in`
abbrev pub held_at : List ℕ → ℕ → ℕ → ℕ → ℕ
held_at t len v i = cond (eqb (word t len i FROM) v && eqb (word t len i ESCROW_STATE) IS_OPEN) (word t len i ESCROW_AMOUNT) 0

pub and_true : (b : Bool) → b && true ≡ b
and_true true = refl
and_true false = refl

pub and_false : (b : Bool) → b && false ≡ false
and_false true = refl
and_false false = refl

pub eqb_sym : (a b : ℕ) → eqb a b ≡ eqb b a
eqb_sym a b = go (eqb a b) refl
  where
    go : (c : Bool) → eqb a b ≡ c → c ≡ eqb b a
    go true e = sym (eq-eqb b a (sym (eqb-true a b e)))
    go false e = sym (ne_eqb b a (λ x. eqb-false a b e (sym x)))

-- an open escrow is closed: its sender holds its amount less
pub held_sum : (t : List ℕ) (len n i st y z v : ℕ) → 8 ≤ len → n * len ≤ length t → i < n
    → eqb (word t len i ESCROW_STATE) IS_OPEN ≡ true → eqb st IS_OPEN ≡ false
    → sum n (held_at (shut t len i ESCROW_STATE st ESCROW_CLOSED_AT y ESCROW_CLOSED_BY z) len v)
    + cond (eqb v (word t len i FROM)) (word t len i ESCROW_AMOUNT) 0
    ≡ sum n (held_at t len v)
held_sum t len n i st y z v wide fits i< open_i closed =
    let t' : List ℕ = shut t len i ESCROW_STATE st ESCROW_CLOSED_AT y ESCROW_CLOSED_BY z in
    let c4 : ESCROW_STATE < len = omega arith in
    let c6 : ESCROW_CLOSED_AT < len = omega arith in
    let c7 : ESCROW_CLOSED_BY < len = omega arith in
    let st' : word t' len i ESCROW_STATE ≡ st =
    shut_same t len i ESCROW_STATE st ESCROW_CLOSED_AT y ESCROW_CLOSED_BY z c4 c6 c7 (omega arith) (omega arith) (in_table len n i ESCROW_STATE t fits i< c4) in
    let other : (j k : ℕ) → k < 8 → j ≢ i → word t' len j k ≡ word t len j k =
    λ j k k< ne. shut_row t len i ESCROW_STATE st ESCROW_CLOSED_AT y ESCROW_CLOSED_BY z c4 c6 c7 j k (omega arith) ne in
    let new : held_at t' len v i ≡ 0 =
    ap (λ (b : Bool). cond b (word t' len i ESCROW_AMOUNT) 0)
    (ap (λ (b : Bool). eqb (word t' len i FROM) v && b) (ap (λ (s : ℕ). eqb s IS_OPEN) st' ∙ closed) ∙ and_false (eqb (word t' len i FROM) v)) in
    let old : held_at t len v i ≡ cond (eqb v (word t len i FROM)) (word t len i ESCROW_AMOUNT) 0 =
    ap (λ (b : Bool). cond b (word t len i ESCROW_AMOUNT) 0)
    (ap (λ (b : Bool). eqb (word t len i FROM) v && b) open_i ∙ and_true (eqb (word t len i FROM) v) ∙ eqb_sym (word t len i FROM) v) in
    let ch : sum n (held_at t' len v) + held_at t len v i ≡ sum n (held_at t len v) + held_at t' len v i =
    sum_change n i (held_at t' len v) (held_at t len v) i<
    (λ j h ne.
    ap₂ (λ (b : Bool) (x : ℕ). cond b x 0)
    (ap₂ (λ (x y : ℕ). eqb x v && eqb y IS_OPEN) (other j FROM (lit< tt) ne) (other j ESCROW_STATE (lit< tt) ne))
    (other j ESCROW_AMOUNT (lit< tt) ne)) in
    omega arith
