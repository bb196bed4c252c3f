-- Tables and book agree after one change: of a word of the header, of the wallets, of a new row. The operations are made of these.
use mathlib.Core.Path.{◌≡◌, refl, sym, ap, ◌∙◌, subst, subst₂, subst₃}
use mathlib.Core.Logic.{◌≢◌}
use mathlib.Core.List.{List, [], ◌∷◌}
use mathlib.Core.Bool.{Bool, true}
use Prim.Native.Nat.{ℕ, ◌+◌, ◌-◌, ◌*◌, ◌≤◌, ◌<◌}
use native.Mathlib.Omega.{arith}
use lib.ListN.{get_or, length}
use lib.Seq.{get_or-set_other}
use lib.Dec.{eqb, lit<, lit≤}
use Rattle.rules.specs.Limits.{WALLET_LEN, RECEIPT_LEN, CLOCK, GRANTED, WALLETS, ESCROWS, RECEIPTS, ENTRIES, BALANCE, LOCKED, AUTO_OR_FREEZE, SWEEP}
use Rattle.rules.specs.Limits.{FROM, TO, ESCROW_AMOUNT, ESCROW_DEADLINE, ESCROW_STATE, RECEIPT_LINK, ACCEPTANCE_DEADLINE, AUTO_ACCEPT, RECEIPT_STATE, RELEASE_CODE, IS_OPEN, PENDING}
use Rattle.rules.specs.Table.{word, put_row, rows_in}
use Rattle.rules.specs.Ledger.{Edition, Ledger, head, wallet_count, escrow_count, receipt_count, row_of, put_head, put_wallet, new_entry}
use Rattle.rules.specs.Record.{bit}
use Rattle.rules.specs.Settle.{enter}
use Rattle.rules.specs.History.{Said, Book, Deal, Note, at, grants, transfers, opens_escrow, makes_claim}
use Rattle.rules.specs.declared.Submission.{Submission}
use Rattle.rules.proofs.Bools.{cond_case}
use Rattle.rules.proofs.Rows.{rows_fit, room, word_new, word_old}
use Rattle.rules.proofs.Accounts.{bal, distinct_put, bal_put_col, total_put_col}
use Rattle.rules.proofs.Moves.{up, mv, up_bal, up_total, distinct_mv, mv_bal, mv_total}
use Rattle.rules.proofs.Ensured.{Ensured}
use Rattle.rules.proofs.Agree.{AccOf, EscsOf, RecsOf, Fits, at_cases}

-- ---- the header

-- from the numbers that the header has
pub fits_make : (L : Ledger) (B : Book) (n g m k : ℕ) → wallet_count L ≡ n → head L GRANTED ≡ g → escrow_count L ≡ m → receipt_count L ≡ k
    → AccOf L.wallets n g B → EscsOf L.escrows L.edition.escrow m B → RecsOf L.receipts k B → Fits L B
fits_make L B n g m k en eg em ek a e r = record {
  acc = subst₂ (λ (x y : ℕ). AccOf L.wallets x y B) (sym en) (sym eg) a;
  escs = subst (λ (x : ℕ). EscsOf L.escrows L.edition.escrow x B) (sym em) e;
  recs = subst (λ (x : ℕ). RecsOf L.receipts x B) (sym ek) r;
}

-- a word that the book says nothing of
pub fits_head : (k v : ℕ) (L : Ledger) (B : Book) → GRANTED ≢ k → WALLETS ≢ k → ESCROWS ≢ k → RECEIPTS ≢ k → Fits L B → Fits (put_head k v L) B
unfolding put_head
fits_head k v L B n3 n4 n5 n6 f =
    fits_make (put_head k v L) B (wallet_count L) (head L GRANTED) (escrow_count L) (receipt_count L) (get_or-set_other L.header k WALLETS v 0 n4)
    (get_or-set_other L.header k GRANTED v 0 n3) (get_or-set_other L.header k ESCROWS v 0 n5) (get_or-set_other L.header k RECEIPTS v 0 n6)
    f.acc f.escs f.recs

pub fits_clock : (v : ℕ) (L : Ledger) (B : Book) → Fits L B → Fits (put_head CLOCK v L) B
fits_clock v L B f = fits_head CLOCK v L B (omega arith) (omega arith) (omega arith) (omega arith) f

-- the journal's row
pub fits_enter : (s : Submission) (w : ℕ) (L : Ledger) (B : Book) → Fits L B → Fits (enter s w L) B
unfolding enter new_entry
fits_enter s w L B f =
    cond_case (λ (K : Ledger). Fits K B) (eqb s.op SWEEP) L _ (λ e. f)
    (λ e. fits_head ENTRIES _ _ B (omega arith) (omega arith) (omega arith) (omega arith) (record { acc = f.acc; escs = f.escs; recs = f.recs }))

-- ---- wallets

pub fits_ensured : (L K : Ledger) (id : ℕ) (B : Book) → Ensured L K id → Fits L B → Fits K B
fits_ensured L K id B en f =
    let granted : head K GRANTED ≡ B.granted = en.others GRANTED (omega arith) ∙ f.acc.grants in
    record {
      acc = record {
        distinct = en.good.distinct;
        balances = λ v. ap (λ (x : ℕ). x + B.went v) (en.same v BALANCE (lit< tt) refl) ∙ f.acc.balances v;
        helds = λ v. ap (λ (x : ℕ). x + B.freed v) (en.same v LOCKED (lit< tt) refl) ∙ f.acc.helds v;
        totals = en.good.totals ∙ granted;
        grants = granted;
      };
      escs = subst₃ (λ (t : List ℕ) (e : Edition) (n : ℕ). EscsOf t e.escrow n B) (sym en.escrows) (sym en.edition) (sym (en.others ESCROWS (omega arith))) f.escs;
      recs = subst₂ (λ (t : List ℕ) (n : ℕ). RecsOf t n B) (sym en.receipts) (sym (en.others RECEIPTS (omega arith))) f.recs;
    }

module _ (E : Said) (t : List ℕ) (n g : ℕ) (B : Book) (acc : AccOf t n g B) (rows_there : n ≤ rows_in WALLET_LEN t) where
  s : Submission
  s = E.submission

  fits : n * WALLET_LEN ≤ length t
  fits = rows_fit WALLET_LEN n t rows_there

  pub acc_grant : row_of t n E.submission.target < n
      → AccOf (up t n BALANCE E.submission.target E.submission.amount) n (g + E.submission.amount) (grants E B)
  unfolding s grants
  acc_grant found = record {
    distinct = distinct_put t n (row_of t n s.target) BALANCE _ (lit< tt) (omega arith) acc.distinct;
    balances = λ v. omega (arith, acc.balances v, up_bal t n BALANCE s.target s.amount (lit< tt) (omega arith) fits found BALANCE v (lit< tt));
    helds = λ v. omega (arith, acc.helds v, up_bal t n BALANCE s.target s.amount (lit< tt) (omega arith) fits found LOCKED v (lit< tt));
    totals = up_total t n BALANCE s.target s.amount (lit≤ tt) (lit≤ tt) fits found ∙ ap (λ (x : ℕ). x + s.amount) acc.totals;
    grants = ap (λ (x : ℕ). x + s.amount) acc.grants;
  }

  module _ (s_row : row_of t n E.submission.signer < n) (enough : E.submission.amount ≤ bal t n E.submission.signer BALANCE) where
    pub acc_transfer : row_of t n E.submission.target < n
        → AccOf (mv t n BALANCE E.submission.signer BALANCE E.submission.target E.submission.amount) n g (transfers E B)
    unfolding s transfers
    acc_transfer t_row =
        let moved = mv_bal t n BALANCE s.signer BALANCE s.target s.amount (lit≤ tt) (lit≤ tt) (lit≤ tt) (lit≤ tt) fits s_row t_row enough in
        record {
          distinct = distinct_mv t n BALANCE _ BALANCE _ _ (lit< tt) (omega arith) (lit< tt) (omega arith) acc.distinct;
          balances = λ v. omega (arith, acc.balances v, moved BALANCE v (lit< tt));
          helds = λ v. omega (arith, acc.helds v, moved LOCKED v (lit< tt));
          totals = mv_total t n BALANCE s.signer BALANCE s.target s.amount (lit≤ tt) (lit≤ tt) (lit≤ tt) (lit≤ tt) fits s_row t_row enough ∙ acc.totals;
          grants = acc.grants;
        }

    pub acc_open : AccOf (mv t n BALANCE E.submission.signer LOCKED E.submission.signer E.submission.amount) n g (opens_escrow E B)
    unfolding s opens_escrow
    acc_open =
        let moved = mv_bal t n BALANCE s.signer LOCKED s.signer s.amount (lit≤ tt) (lit≤ tt) (lit≤ tt) (lit≤ tt) fits s_row s_row enough in
        record {
          distinct = distinct_mv t n BALANCE _ LOCKED _ _ (lit< tt) (omega arith) (lit< tt) (omega arith) acc.distinct;
          balances = λ v. omega (arith, acc.balances v, moved BALANCE v (lit< tt));
          helds = λ v. omega (arith, acc.helds v, moved LOCKED v (lit< tt));
          totals = mv_total t n BALANCE s.signer LOCKED s.signer s.amount (lit≤ tt) (lit≤ tt) (lit≤ tt) (lit≤ tt) fits s_row s_row enough ∙ acc.totals;
          grants = acc.grants;
        }

-- a word of a wallet past its locked
pub fits_put_wallet : (L : Ledger) (B : Book) (i c x : ℕ) → LOCKED < c → c < WALLET_LEN → Fits L B → Fits (put_wallet i c x L) B
unfolding put_wallet
fits_put_wallet L B i c x low c< f =
    let t : List ℕ = L.wallets in
    let n : ℕ = wallet_count L in
    record {
      acc = record {
        distinct = distinct_put t n i c x c< (omega arith) f.acc.distinct;
        balances = λ v. ap (λ (y : ℕ). y + B.went v) (bal_put_col t n i c x c< (omega arith) v BALANCE (lit< tt) (omega arith)) ∙ f.acc.balances v;
        helds = λ v. ap (λ (y : ℕ). y + B.freed v) (bal_put_col t n i c x c< (omega arith) v LOCKED (lit< tt) (omega arith)) ∙ f.acc.helds v;
        totals = total_put_col t n i c x c< low ∙ f.acc.totals;
        grants = f.acc.grants;
      };
      escs = f.escs;
      recs = f.recs;
    }

-- ---- a new row, which the book knows at k

module _ (t : List ℕ) (len n : ℕ) (vs : List ℕ) (place : n < rows_in len t) (short : length vs ≤ len) (k : ℕ) (here : k ≡ n) where
  added : (A : Type 0) (Q : ℕ → A → Type 0) (c : ℕ) → c < length vs → (x : A) (f : ℕ → A) → Q (get_or vs c 0) x
      → ((j : ℕ) → j < n → Q (word t len j c) (f j)) → (j : ℕ) → j < n + 1 → Q (word (put_row t len n vs) len j c) (at k x f j)
  added A Q c c< x f new old j h =
      at_cases (Q (word (put_row t len n vs) len j c)) k j x f
      (λ e. subst (λ (y : ℕ). Q y x) (sym (ap (λ (i : ℕ). word (put_row t len n vs) len i c) (e ∙ here) ∙ word_new t len n c vs (omega (arith, room len n t place)) c<)) new)
      (λ e. subst (λ (y : ℕ). Q y (f j)) (sym (word_old t len n j c vs (omega arith) (omega arith))) (old j (omega arith)))

pub escs_open : (E : Said) (t : List ℕ) (len n : ℕ) (B : Book) → EscsOf t len n B → 8 ≤ len → n < rows_in len t → E.word ≡ n + 1
    → EscsOf
    (put_row t len n (E.submission.signer ∷ E.submission.target ∷ E.submission.amount ∷ E.submission.until ∷ IS_OPEN ∷ E.submission.now ∷ 0 ∷ 0 ∷ []))
    len (n + 1) (opens_escrow E B)
unfolding opens_escrow
escs_open E t len n B a wide place word_is =
    let s : Submission = E.submission in
    let d : Deal = record { from = s.signer; to = s.target; amount = s.amount; until = s.until } in
    let at_new = added t len n (s.signer ∷ s.target ∷ s.amount ∷ s.until ∷ IS_OPEN ∷ s.now ∷ 0 ∷ 0 ∷ []) place (omega arith) (E.word - 1) (omega arith) in
    record {
      count = ap (λ (x : ℕ). x + 1) a.count;
      from = at_new Deal (λ (x : ℕ) (e : Deal). x ≡ e.from) FROM (lit< tt) d B.deal refl a.from;
      to = at_new Deal (λ (x : ℕ) (e : Deal). x ≡ e.to) TO (lit< tt) d B.deal refl a.to;
      amount = at_new Deal (λ (x : ℕ) (e : Deal). x ≡ e.amount) ESCROW_AMOUNT (lit< tt) d B.deal refl a.amount;
      until = at_new Deal (λ (x : ℕ) (e : Deal). x ≡ e.until) ESCROW_DEADLINE (lit< tt) d B.deal refl a.until;
      live = at_new Bool (λ (x : ℕ) (b : Bool). eqb x IS_OPEN ≡ b) ESCROW_STATE (lit< tt) true B.live refl a.live;
    }

pub recs_claim : (E : Said) (t : List ℕ) (n : ℕ) (B : Book) → RecsOf t n B → n < rows_in RECEIPT_LEN t → E.word ≡ n + 1
    → RecsOf
    (put_row t RECEIPT_LEN n
    (E.submission.signer ∷ E.submission.target ∷ E.submission.link ∷ E.submission.until ∷ bit AUTO_OR_FREEZE E.submission.flags ∷ PENDING
    ∷ E.submission.now ∷ 0 ∷ 0 ∷ 0 ∷ E.submission.hash0 ∷ E.submission.hash1 ∷ E.submission.hash2 ∷ E.submission.hash3 ∷ []))
    (n + 1) (makes_claim E B)
unfolding makes_claim
recs_claim E t n B a place word_is =
    let s : Submission = E.submission in
    let d : Note = record { link = s.link; until = s.until; auto = bit AUTO_OR_FREEZE s.flags } in
    let at_new =
    added t RECEIPT_LEN n
    (s.signer ∷ s.target ∷ s.link ∷ s.until ∷ bit AUTO_OR_FREEZE s.flags ∷ PENDING ∷ s.now ∷ 0 ∷ 0 ∷ 0 ∷ s.hash0 ∷ s.hash1 ∷ s.hash2 ∷ s.hash3 ∷ [])
    place (lit≤ tt) (E.word - 1) (omega arith) in
    record {
      count = ap (λ (x : ℕ). x + 1) a.count;
      link = at_new Note (λ (x : ℕ) (e : Note). x ≡ e.link) RECEIPT_LINK (lit< tt) d B.note refl a.link;
      until = at_new Note (λ (x : ℕ) (e : Note). x ≡ e.until) ACCEPTANCE_DEADLINE (lit< tt) d B.note refl a.until;
      auto = at_new Note (λ (x : ℕ) (e : Note). x ≡ e.auto) AUTO_ACCEPT (lit< tt) d B.note refl a.auto;
      pending = at_new Bool (λ (x : ℕ) (b : Bool). eqb x PENDING ≡ b) RECEIPT_STATE (lit< tt) true B.pending refl a.pending;
      code = at_new Bool (λ (x : ℕ) (b : Bool). b ≡ true → x ≡ 0) RELEASE_CODE (lit< tt) true B.pending (λ w. refl) a.code;
    }
