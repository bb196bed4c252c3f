-- The wallet table t of n written rows as accounts: where an id has its row, what its wallet has, what all wallets have. `bal` is a
-- function of the id (0 where there is no wallet), so that a word set or a new row is one equation for every id, and no law needs to know
-- which rows are which.
use mathlib.Core.Path.{◌≡◌, refl, sym, ap, ap₂, ◌∙◌, subst, fun_ext}
use mathlib.Core.Logic.{◌≢◌}
use mathlib.Core.List.{List}
use mathlib.Core.Bool.{Bool, true, false, not, cond}
use Prim.Native.Nat.{ℕ, zero, suc, ◌+◌, ◌*◌, ◌≤◌, ◌<◌}
use native.Mathlib.Decide.{ℕ_discrete}
use native.Mathlib.Numerals.{add-one}
use native.Mathlib.Omega.{arith}
use lib.ListN.{get_or, length}
use lib.Dec.{eqb, ltb, lit<}
use borrow.Author.Tests.{eqb-true, eq-eqb, ne_eqb, ltb-true, ltb-false, lt-ltb, le-ltb, not-true}
use Rattle.rules.specs.Limits.{WALLET_LEN, ID, BALANCE, LOCKED}
use Rattle.rules.specs.Table.{word, put, put_row, sum, every, distinct, seek}
use Rattle.rules.specs.Ledger.{row_of}
use Rattle.rules.proofs.Rows.{in_table, word_same, word_row, word_col, word_new, word_old}
use Rattle.rules.proofs.Counts.{sum_ext, sum_change, sum_step, every_at, taken_back}
use Rattle.rules.proofs.Seek.{seek_le, seek_hit, seek_more, seek_next, seek_none, seek_at}

-- word k of the wallet of id, 0 if there is none
abbrev pub bal : List ℕ → ℕ → ℕ → ℕ → ℕ
bal t n id k = cond (ltb (row_of t n id) n) (word t WALLET_LEN (row_of t n id) k) 0

-- all credits of n rows
abbrev pub total : List ℕ → ℕ → ℕ
total t n = sum n (λ i. word t WALLET_LEN i BALANCE + word t WALLET_LEN i LOCKED)

pub row_le : (t : List ℕ) (n id : ℕ) → row_of t n id ≤ n
unfolding row_of
row_le t n id = seek_le n (λ i. eqb (word t WALLET_LEN i ID) id)

pub row_hit : (t : List ℕ) (n id : ℕ) → row_of t n id < n → word t WALLET_LEN (row_of t n id) ID ≡ id
unfolding row_of
row_hit t n id h = eqb-true _ id (seek_hit n (λ i. eqb (word t WALLET_LEN i ID) id) h)

pub bal_found : (t : List ℕ) (n id k : ℕ) → row_of t n id < n → bal t n id k ≡ word t WALLET_LEN (row_of t n id) k
bal_found t n id k h = rw (lt-ltb _ _ h)

pub bal_missing : (t : List ℕ) (n id k : ℕ) → n ≤ row_of t n id → bal t n id k ≡ 0
bal_missing t n id k h = rw (le-ltb _ _ h)

-- a word other than an id is set
module _ (t : List ℕ) (n i c x : ℕ) (c< : c < WALLET_LEN) (c≢ : ID ≢ c) where
  ids_put : ◌≡◌ {A = ℕ → ℕ} (λ j. word (put t WALLET_LEN i c x) WALLET_LEN j ID) (λ j. word t WALLET_LEN j ID)
  ids_put = fun_ext (λ j. word_col t WALLET_LEN i c x j ID c< (lit< tt) c≢)

  pub row_put : (v : ℕ) → row_of (put t WALLET_LEN i c x) n v ≡ row_of t n v
  unfolding row_of
  row_put v = ap (λ (f : ℕ → ℕ). seek n (λ j. eqb (f j) v)) ids_put

  pub bal_put_col : (v d : ℕ) → d < WALLET_LEN → d ≢ c → bal (put t WALLET_LEN i c x) n v d ≡ bal t n v d
  bal_put_col v d d< ne =
      ap (λ (r : ℕ). cond (ltb r n) (word (put t WALLET_LEN i c x) WALLET_LEN r d) 0) (row_put v)
      ∙ ap (λ (y : ℕ). cond (ltb (row_of t n v) n) y 0) (word_col t WALLET_LEN i c x (row_of t n v) d c< d< ne)

-- each row is where its id is found
abbrev pub Distinct : List ℕ → ℕ → Type 0
Distinct t n = (i : ℕ) → i < n → row_of t n (word t WALLET_LEN i ID) ≡ i

-- that is what the definition's test of every two rows says
pub distinct_says : (t : List ℕ) (n : ℕ) → distinct n (λ i. word t WALLET_LEN i ID) ≡ true → Distinct t n
unfolding row_of
distinct_says t n h i l =
    let d : every i (λ j. not (eqb (word t WALLET_LEN j ID) (word t WALLET_LEN i ID))) ≡ true =
    every_at n (λ i. every i (λ j. not (eqb (word t WALLET_LEN j ID) (word t WALLET_LEN i ID)))) h i l in
    seek_at n (λ j. eqb (word t WALLET_LEN j ID) (word t WALLET_LEN i ID)) i l
    (λ j k. not-true _ (every_at i (λ j. not (eqb (word t WALLET_LEN j ID) (word t WALLET_LEN i ID))) d j k)) (eq-eqb (word t WALLET_LEN i ID) (word t WALLET_LEN i ID) refl)

pub distinct_test : (t : List ℕ) (n : ℕ) → Distinct t n → distinct n (λ i. word t WALLET_LEN i ID) ≡ true
distinct_test t n d = taken_back n (λ i. word t WALLET_LEN i ID) (λ v. row_of t n v + 1) (λ i l. ap (λ (r : ℕ). r + 1) (d i l))

-- so a row that has the id is the one that is found
pub first_row : (t : List ℕ) (n x i : ℕ) → distinct n (λ i. word t WALLET_LEN i ID) ≡ true → i < n → word t WALLET_LEN i ID ≡ x → row_of t n x ≡ i
first_row t n x i d l e = sym (ap (row_of t n) e) ∙ distinct_says t n d i l

pub distinct_put : (t : List ℕ) (n i c x : ℕ) → c < WALLET_LEN → ID ≢ c → Distinct t n → Distinct (put t WALLET_LEN i c x) n
distinct_put t n i c x c< c≢ d j h =
    row_put t n i c x c< c≢ (word (put t WALLET_LEN i c x) WALLET_LEN j ID) ∙ ap (row_of t n) (word_col t WALLET_LEN i c x j ID c< (lit< tt) c≢) ∙ d j h

-- a written row is the wallet of its id
pub own : (t : List ℕ) (n i k : ℕ) → Distinct t n → i < n → bal t n (word t WALLET_LEN i ID) k ≡ word t WALLET_LEN i k
own t n i k d l =
    bal_found t n (word t WALLET_LEN i ID) k (subst (λ (r : ℕ). r < n) (sym (d i l)) l) ∙ ap (λ (r : ℕ). word t WALLET_LEN r k) (d i l)

-- the word c of the wallet of id is set to x
module _ (t : List ℕ) (n id c x : ℕ) (c< : c < WALLET_LEN) (c≢ : ID ≢ c) (fits : n * WALLET_LEN ≤ length t) (found : row_of t n id < n) where
  pub bal_put : (v : ℕ) → bal (put t WALLET_LEN (row_of t n id) c x) n v c ≡ cond (eqb v id) x (bal t n v c)
  bal_put v =
      ap (λ (r : ℕ). cond (ltb r n) (word (put t WALLET_LEN (row_of t n id) c x) WALLET_LEN r c) 0) (row_put t n (row_of t n id) c x c< c≢ v)
      ∙ go (ℕ_discrete v id)
    where
      go : Dec (v ≡ id) → cond (ltb (row_of t n v) n) (word (put t WALLET_LEN (row_of t n id) c x) WALLET_LEN (row_of t n v) c) 0 ≡ cond (eqb v id) x (bal t n v c)
      go (yes e) =
          ap (λ (u : ℕ). cond (ltb (row_of t n u) n) (word (put t WALLET_LEN (row_of t n id) c x) WALLET_LEN (row_of t n u) c) 0) e
          ∙ ap (λ (b : Bool). cond b (word (put t WALLET_LEN (row_of t n id) c x) WALLET_LEN (row_of t n id) c) 0) (lt-ltb _ _ found)
          ∙ word_same t WALLET_LEN (row_of t n id) c x (in_table WALLET_LEN n (row_of t n id) c t fits found c<)
          ∙ sym (ap (λ (b : Bool). cond b x (bal t n v c)) (eq-eqb v id e))
      go (no e) = test (ltb (row_of t n v) n) refl ∙ sym (ap (λ (b : Bool). cond b x (bal t n v c)) (ne_eqb v id e))
        where
          test : (b : Bool) → ltb (row_of t n v) n ≡ b → cond b (word (put t WALLET_LEN (row_of t n id) c x) WALLET_LEN (row_of t n v) c) 0 ≡ cond b (word t WALLET_LEN (row_of t n v) c) 0
          test true h =
              word_row t WALLET_LEN (row_of t n id) c x (row_of t n v) c c< c<
              (λ r. e (sym (row_hit t n v (ltb-true _ _ h)) ∙ ap (λ (k : ℕ). word t WALLET_LEN k ID) r ∙ row_hit t n id found))
          test false h = refl

-- all credits, where a balance or a locked word is set, or another word
pub total_put : (t : List ℕ) (n i c x : ℕ) → BALANCE ≤ c → c ≤ LOCKED → n * WALLET_LEN ≤ length t → i < n
    → total (put t WALLET_LEN i c x) n + word t WALLET_LEN i c ≡ total t n + x
total_put t n i c x low high fits i< = go c low high
  where
    go : (c : ℕ) → BALANCE ≤ c → c ≤ LOCKED → total (put t WALLET_LEN i c x) n + word t WALLET_LEN i c ≡ total t n + x
    go zero l h = absurd (omega arith)
    go (suc zero) l h =
        let a = sum_change n i
        (λ j. word (put t WALLET_LEN i BALANCE x) WALLET_LEN j BALANCE + word (put t WALLET_LEN i BALANCE x) WALLET_LEN j LOCKED)
        (λ j. word t WALLET_LEN j BALANCE + word t WALLET_LEN j LOCKED) i<
        (λ j h ne. ap₂ ◌+◌ (word_row t WALLET_LEN i BALANCE x j BALANCE (lit< tt) (lit< tt) ne) (word_row t WALLET_LEN i BALANCE x j LOCKED (lit< tt) (lit< tt) ne)) in
        let b : word (put t WALLET_LEN i BALANCE x) WALLET_LEN i BALANCE ≡ x = word_same t WALLET_LEN i BALANCE x (in_table WALLET_LEN n i BALANCE t fits i< (lit< tt)) in
        let d = word_col t WALLET_LEN i BALANCE x i LOCKED (lit< tt) (lit< tt) (omega arith) in
        omega arith
    go (suc (suc zero)) l h =
        let a = sum_change n i
        (λ j. word (put t WALLET_LEN i LOCKED x) WALLET_LEN j BALANCE + word (put t WALLET_LEN i LOCKED x) WALLET_LEN j LOCKED)
        (λ j. word t WALLET_LEN j BALANCE + word t WALLET_LEN j LOCKED) i<
        (λ j h ne. ap₂ ◌+◌ (word_row t WALLET_LEN i LOCKED x j BALANCE (lit< tt) (lit< tt) ne) (word_row t WALLET_LEN i LOCKED x j LOCKED (lit< tt) (lit< tt) ne)) in
        let b : word (put t WALLET_LEN i LOCKED x) WALLET_LEN i LOCKED ≡ x = word_same t WALLET_LEN i LOCKED x (in_table WALLET_LEN n i LOCKED t fits i< (lit< tt)) in
        let d = word_col t WALLET_LEN i LOCKED x i BALANCE (lit< tt) (lit< tt) (omega arith) in
        omega arith
    go (suc (suc (suc k))) l h = absurd (omega arith)

pub total_put_col : (t : List ℕ) (n i c x : ℕ) → c < WALLET_LEN → LOCKED < c → total (put t WALLET_LEN i c x) n ≡ total t n
total_put_col t n i c x c< h =
    sum_ext n _ _ (λ j l. ap₂ ◌+◌ (word_col t WALLET_LEN i c x j BALANCE c< (lit< tt) (omega arith)) (word_col t WALLET_LEN i c x j LOCKED c< (lit< tt) (omega arith)))

-- a new wallet, with nothing in it
module _ (t : List ℕ) (n id : ℕ) (vs : List ℕ) (whole : length vs ≡ WALLET_LEN) (named : get_or vs ID 0 ≡ id) (no_balance : get_or vs BALANCE 0 ≡ 0)
    (no_locked : get_or vs LOCKED 0 ≡ 0) (fits : n * WALLET_LEN + WALLET_LEN ≤ length t) (missing : row_of t n id ≡ n) where
  t' : List ℕ
  t' = put_row t WALLET_LEN n vs

  new_at : (c : ℕ) → c < WALLET_LEN → word t' WALLET_LEN n c ≡ get_or vs c 0
  unfolding t'
  new_at c h = word_new t WALLET_LEN n c vs (omega arith) (omega arith)

  old_at : (j c : ℕ) → j < n → c < WALLET_LEN → word t' WALLET_LEN j c ≡ word t WALLET_LEN j c
  unfolding t'
  old_at j c h hc = word_old t WALLET_LEN n j c vs h hc

  agree : (v i : ℕ) → i < n → eqb (word t WALLET_LEN i ID) v ≡ eqb (word t' WALLET_LEN i ID) v
  agree v i h = ap (λ (x : ℕ). eqb x v) (sym (old_at i ID h (lit< tt)))

  pub new_row_old : (v : ℕ) → row_of t n v < n → row_of (put_row t WALLET_LEN n vs) (n + 1) v ≡ row_of t n v
  unfolding t' row_of
  new_row_old v h = seek_more n (n + 1) (λ i. eqb (word t WALLET_LEN i ID) v) (λ i. eqb (word t' WALLET_LEN i ID) v) (omega arith) (agree v) h

  pub new_row_id : row_of (put_row t WALLET_LEN n vs) (n + 1) id ≡ n
  unfolding t' row_of
  new_row_id = rw (add-one n)
      (seek_next n (λ i. eqb (word t WALLET_LEN i ID) id) (λ i. eqb (word t' WALLET_LEN i ID) id) (agree id) missing
      (eq-eqb _ id (new_at ID (lit< tt) ∙ named)))

  pub new_row_none : (v : ℕ) → v ≢ id → row_of t n v ≡ n → row_of (put_row t WALLET_LEN n vs) (n + 1) v ≡ n + 1
  unfolding t' row_of
  new_row_none v ne h = rw (add-one n)
      (seek_none n (λ i. eqb (word t WALLET_LEN i ID) v) (λ i. eqb (word t' WALLET_LEN i ID) v) (agree v) h
      (ne_eqb _ v (λ e. ne (sym e ∙ new_at ID (lit< tt) ∙ named))))

  pub new_bal : (v c : ℕ) → c < WALLET_LEN → get_or vs c 0 ≡ 0 → bal (put_row t WALLET_LEN n vs) (n + 1) v c ≡ bal t n v c
  unfolding t'
  new_bal v c c< zero_c = go (ℕ_discrete v id) (ltb (row_of t n v) n) refl
    where
      go : Dec (v ≡ id) → (b : Bool) → ltb (row_of t n v) n ≡ b → bal t' (n + 1) v c ≡ bal t n v c
      go (yes e) b h =
          subst (λ (u : ℕ). bal t' (n + 1) u c ≡ bal t n u c) (sym e)
          (bal_found t' (n + 1) id c (rw new_row_id (omega arith)) ∙ ap (λ (r : ℕ). word t' WALLET_LEN r c) new_row_id ∙ new_at c c< ∙ zero_c
          ∙ sym (bal_missing t n id c (omega arith)))
      go (no e) true h =
          let l : row_of t n v < n = ltb-true _ _ h in
          bal_found t' (n + 1) v c (rw (new_row_old v l) (omega arith)) ∙ ap (λ (r : ℕ). word t' WALLET_LEN r c) (new_row_old v l)
          ∙ old_at (row_of t n v) c l c< ∙ sym (bal_found t n v c l)
      go (no e) false h =
          let l : n ≤ row_of t n v = ltb-false _ _ h in
          let m : row_of t n v ≡ n = omega (arith, row_le t n v) in
          bal_missing t' (n + 1) v c (rw (new_row_none v e m) (omega arith)) ∙ sym (bal_missing t n v c l)

  pub distinct_new : Distinct t n → Distinct (put_row t WALLET_LEN n vs) (n + 1)
  unfolding t'
  distinct_new d j h = go (ℕ_discrete j n)
    where
      go : Dec (j ≡ n) → row_of t' (n + 1) (word t' WALLET_LEN j ID) ≡ j
      go (yes e) =
          subst (λ (k : ℕ). row_of t' (n + 1) (word t' WALLET_LEN k ID) ≡ k) (sym e) (ap (row_of t' (n + 1)) (new_at ID (lit< tt) ∙ named) ∙ new_row_id)
      go (no e) =
          let l : j < n = omega (arith, h, e) in
          ap (row_of t' (n + 1)) (old_at j ID l (lit< tt)) ∙ new_row_old (word t WALLET_LEN j ID) (subst (λ (k : ℕ). k < n) (sym (d j l)) l) ∙ d j l

  pub new_total : total (put_row t WALLET_LEN n vs) (n + 1) ≡ total t n
  unfolding t'
  new_total =
      let f : ℕ → ℕ = λ i. word t' WALLET_LEN i BALANCE + word t' WALLET_LEN i LOCKED in
      let s : sum n f ≡ total t n = sum_ext n f _ (λ i h. ap₂ ◌+◌ (old_at i BALANCE h (lit< tt)) (old_at i LOCKED h (lit< tt))) in
      omega (arith, sum_step n f, s, new_at BALANCE (lit< tt), new_at LOCKED (lit< tt), no_balance, no_locked)
