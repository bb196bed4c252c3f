-- THE SIMULATION: what the tables of a ledger and the book of its submissions agree on (`Fits`), and that they still agree after an escrow
-- ended, a receipt closed, an accept. Each part names only the fields of the book that it speaks of, so that what a step leaves alone is
-- carried over by computation.
use mathlib.Core.Path.{◌≡◌, refl, sym, ap, ap₂, ◌∙◌, subst}
use mathlib.Core.Logic.{◌≢◌}
use mathlib.Core.List.{List}
use mathlib.Core.Bool.{Bool, true, false, cond, ◌&&◌, true≢false}
use Prim.Native.Nat.{ℕ, ◌+◌, ◌-◌, ◌≤◌, ◌<◌}
use native.Mathlib.Omega.{arith}
use lib.Dec.{eqb, leb, lit<, lit≤}
use borrow.Author.Tests.{eqb-true, eqb-false}
use Rattle.rules.specs.Limits.{RECEIPT_LEN, LAST_TIME_MS, GRANTED, ESCROWS, BALANCE, LOCKED, IS_OPEN, RELEASED, PENDING, ACCEPTED, RELEASE_CODE, RELEASE_IMPOSSIBLE}
use Rattle.rules.specs.Limits.{FROM, TO, ESCROW_AMOUNT, ESCROW_DEADLINE, ESCROW_STATE, ESCROW_CLOSED_AT, ESCROW_CLOSED_BY}
use Rattle.rules.specs.Limits.{RECEIPT_LINK, ACCEPTANCE_DEADLINE, AUTO_ACCEPT, RECEIPT_STATE, RECEIPT_CLOSED_AT, RECEIPT_CLOSED_BY}
use Rattle.rules.specs.Table.{word, put, rows_in}
use Rattle.rules.specs.Ledger.{Ledger, head, escrow, receipt, wallet_count, escrow_count, receipt_count, put_wallet, put_escrow, put_receipt}
use Rattle.rules.specs.Refusals.{releasable}
use Rattle.rules.specs.Settle.{raise, lower, end_escrow, close_receipt, Done, done, accept_row}
use Rattle.rules.specs.History.{Book, Deal, Note, at, ends, closes, tries}
use Rattle.rules.proofs.Bools.{and_fst}
use Rattle.rules.proofs.Rows.{rows_fit, in_table, word_row, word_col}
use Rattle.rules.proofs.Accounts.{bal, total, Distinct}
use Rattle.rules.proofs.Moves.{mv, distinct_mv, shut, shut_col, shut_row, shut_same}
use Rattle.rules.proofs.Good.{GoodTables, Good}
use Rattle.rules.proofs.Ends.{ended_bal, ended_total}
use Rattle.rules.proofs.Stays.{Kept, row_kept, kept_close, link_row}

-- wallets, of n rows, and the granted total
pub record Acc (t : List ℕ) (n g : ℕ) (came went held freed : ℕ → ℕ) (granted : ℕ) : Type 0 where
  pub distinct : Distinct t n
  pub balances : (v : ℕ) → bal t n v BALANCE + went v ≡ came v
  pub helds : (v : ℕ) → bal t n v LOCKED + freed v ≡ held v
  pub totals : total t n ≡ granted
  pub grants : g ≡ granted

pub record Escs (t : List ℕ) (len n opens : ℕ) (deal : ℕ → Deal) (alive : ℕ → Bool) : Type 0 where
  pub count : n ≡ opens
  pub from : (i : ℕ) → i < n → word t len i FROM ≡ (deal i).from
  pub to : (i : ℕ) → i < n → word t len i TO ≡ (deal i).to
  pub amount : (i : ℕ) → i < n → word t len i ESCROW_AMOUNT ≡ (deal i).amount
  pub until : (i : ℕ) → i < n → word t len i ESCROW_DEADLINE ≡ (deal i).until
  pub live : (i : ℕ) → i < n → eqb (word t len i ESCROW_STATE) IS_OPEN ≡ alive i

pub record Recs (t : List ℕ) (n claims : ℕ) (note : ℕ → Note) (waiting : ℕ → Bool) : Type 0 where
  pub count : n ≡ claims
  pub link : (i : ℕ) → i < n → word t RECEIPT_LEN i RECEIPT_LINK ≡ (note i).link
  pub until : (i : ℕ) → i < n → word t RECEIPT_LEN i ACCEPTANCE_DEADLINE ≡ (note i).until
  pub auto : (i : ℕ) → i < n → word t RECEIPT_LEN i AUTO_ACCEPT ≡ (note i).auto
  pub pending : (i : ℕ) → i < n → eqb (word t RECEIPT_LEN i RECEIPT_STATE) PENDING ≡ waiting i
  pub code : (i : ℕ) → i < n → waiting i ≡ true → word t RECEIPT_LEN i RELEASE_CODE ≡ 0

abbrev pub AccOf : List ℕ → ℕ → ℕ → Book → Type 0
AccOf t n g B = Acc t n g B.came B.went B.held B.freed B.granted

abbrev pub EscsOf : List ℕ → ℕ → ℕ → Book → Type 0
EscsOf t len n B = Escs t len n B.opens B.deal B.live

abbrev pub RecsOf : List ℕ → ℕ → Book → Type 0
RecsOf t n B = Recs t n B.claims B.note B.pending

pub record Fits (L : Ledger) (B : Book) : Type 0 where
  pub acc : AccOf L.wallets (wallet_count L) (head L GRANTED) B
  pub escs : EscsOf L.escrows L.edition.escrow (escrow_count L) B
  pub recs : RecsOf L.receipts (receipt_count L) B

-- at i it is x, elsewhere as it was
pub at_cases {κ} : {A : Type 0} (P : A → Type κ) (i j : ℕ) (x : A) (f : ℕ → A) → (j ≡ i → P x) → (j ≢ i → P (f j)) → P (at i x f j)
at_cases P i j x f a b = go (eqb j i) refl
  where
    go : (t : Bool) → eqb j i ≡ t → P (cond t x (f j))
    go true e = a (eqb-true j i e)
    go false e = b (eqb-false j i e)

-- two choices by equal tests
pub cond_rel {ℓ κ μ} : {A : Type ℓ} {C : Type κ} (P : A → C → Type μ) (b c : Bool) (x y : A) (u v : C)
    → b ≡ c → (b ≡ true → P x u) → (b ≡ false → P y v) → P (cond b x y) (cond c u v)
cond_rel P true true x y u v e f g = f refl
cond_rel P true false x y u v e f g = absurd (true≢false e)
cond_rel P false true x y u v e f g = absurd (true≢false (sym e))
cond_rel P false false x y u v e f g = g refl

-- ---- an open escrow ends

module _ (ws : List ℕ) (nw g : ℕ) (es : List ℕ) (len ne : ℕ) (rs : List ℕ) (nr : ℕ) (good : GoodTables ws nw g es len ne rs nr) (B : Book)
    (acc : AccOf ws nw g B) (escs : EscsOf es len ne B) (i : ℕ) (i< : i < ne) (live_i : B.live i ≡ true) (paid : Bool) where
  open_i : eqb (word es len i ESCROW_STATE) IS_OPEN ≡ true
  open_i = escs.live i i< ∙ live_i

  -- what the tables move is what the book says
  same_gain : (v x y : ℕ) → x ≡ y → cond (eqb v x) (word es len i ESCROW_AMOUNT) 0 ≡ cond (eqb v y) (B.deal i).amount 0
  same_gain v x y e = ap₂ (λ (r a : ℕ). cond (eqb v r) a 0) e (escs.amount i i<)

  ended_acc :
      AccOf (mv ws nw LOCKED (word es len i FROM) BALANCE (cond paid (word es len i TO) (word es len i FROM)) (word es len i ESCROW_AMOUNT)) nw g
      (ends paid i B)
  unfolding ends
  ended_acc = record {
    distinct = distinct_mv ws nw LOCKED _ BALANCE _ _ (lit< tt) (omega arith) (lit< tt) (omega arith) acc.distinct;
    balances = λ v.
        let x = ended_bal ws nw g es len ne rs nr good i i< open_i paid BALANCE v (lit< tt) in
        omega (arith, acc.balances v, x, same_gain v _ _ (ap₂ (cond paid) (escs.to i i<) (escs.from i i<)));
    helds = λ v.
        let x = ended_bal ws nw g es len ne rs nr good i i< open_i paid LOCKED v (lit< tt) in
        omega (arith, acc.helds v, x, same_gain v _ _ (escs.from i i<));
    totals = ended_total ws nw g es len ne rs nr good i i< open_i paid ∙ acc.totals;
    grants = acc.grants;
  }

  module _ (st now signer : ℕ) (closed : eqb st IS_OPEN ≡ false) where
    c4 : ESCROW_STATE < len
    c4 = omega (arith, good.wide)

    c6 : ESCROW_CLOSED_AT < len
    c6 = omega (arith, good.wide)

    c7 : ESCROW_CLOSED_BY < len
    c7 = omega (arith, good.wide)

    early : (j k : ℕ) → k < ESCROW_STATE → word (shut es len i ESCROW_STATE st ESCROW_CLOSED_AT now ESCROW_CLOSED_BY signer) len j k ≡ word es len j k
    early j k h =
        shut_col es len i ESCROW_STATE st ESCROW_CLOSED_AT now ESCROW_CLOSED_BY signer c4 c6 c7 j k (omega (arith, good.wide)) (omega arith) (omega arith)
        (omega arith)

    ended_escs : EscsOf (shut es len i ESCROW_STATE st ESCROW_CLOSED_AT now ESCROW_CLOSED_BY signer) len ne (ends paid i B)
    unfolding ends
    ended_escs = record {
      count = escs.count;
      from = λ j h. early j FROM (lit< tt) ∙ escs.from j h;
      to = λ j h. early j TO (lit< tt) ∙ escs.to j h;
      amount = λ j h. early j ESCROW_AMOUNT (lit< tt) ∙ escs.amount j h;
      until = λ j h. early j ESCROW_DEADLINE (lit< tt) ∙ escs.until j h;
      live = λ j h.
          at_cases (λ (b : Bool). eqb (word es' len j ESCROW_STATE) IS_OPEN ≡ b) i j false B.live
          (λ e. ap (λ (k : ℕ). eqb (word es' len k ESCROW_STATE) IS_OPEN) e ∙ ap (λ (x : ℕ). eqb x IS_OPEN) state ∙ closed)
          (λ e.
          ap (λ (x : ℕ). eqb x IS_OPEN)
          (shut_row es len i ESCROW_STATE st ESCROW_CLOSED_AT now ESCROW_CLOSED_BY signer c4 c6 c7 j ESCROW_STATE c4 e)
          ∙ escs.live j h);
    }
      where
        es' : List ℕ
        es' = shut es len i ESCROW_STATE st ESCROW_CLOSED_AT now ESCROW_CLOSED_BY signer

        state : word es' len i ESCROW_STATE ≡ st
        state =
            shut_same es len i ESCROW_STATE st ESCROW_CLOSED_AT now ESCROW_CLOSED_BY signer c4 c6 c7 (omega arith) (omega arith)
            (in_table len ne i ESCROW_STATE es (rows_fit len ne es good.escrows_in) i< c4)

pub fits_end : (L : Ledger) (B : Book) → Good L → Fits L B → (i : ℕ) → i < escrow_count L → B.live i ≡ true
    → (st now signer : ℕ) → eqb st IS_OPEN ≡ false → Fits (end_escrow st now signer i L) (ends (eqb st RELEASED) i B)
unfolding end_escrow raise lower put_wallet put_escrow ends
fits_end L B g f i i< o st now signer c = record {
  acc = ended_acc L.wallets (wallet_count L) (head L GRANTED) L.escrows L.edition.escrow (escrow_count L) L.receipts (receipt_count L)
      g B f.acc f.escs i i< o (eqb st RELEASED);
  escs = ended_escs L.wallets (wallet_count L) (head L GRANTED) L.escrows L.edition.escrow (escrow_count L) L.receipts (receipt_count L)
      g B f.acc f.escs i i< o (eqb st RELEASED) st now signer c;
  recs = f.recs;
}

-- ---- a receipt is closed

-- where the words before the state stay, the rest is the state, and the release code of those that wait
recs_early : (t t' : List ℕ) (n claims : ℕ) (note : ℕ → Note) (waiting waiting' : ℕ → Bool)
    → ((j k : ℕ) → k < RECEIPT_STATE → word t' RECEIPT_LEN j k ≡ word t RECEIPT_LEN j k)
    → ((j : ℕ) → j < n → eqb (word t' RECEIPT_LEN j RECEIPT_STATE) PENDING ≡ waiting' j)
    → ((j : ℕ) → j < n → waiting' j ≡ true → word t' RECEIPT_LEN j RELEASE_CODE ≡ 0) → Recs t n claims note waiting → Recs t' n claims note waiting'
recs_early t t' n claims note waiting waiting' early pending code r = record {
  count = r.count;
  link = λ j h. early j RECEIPT_LINK (lit< tt) ∙ r.link j h;
  until = λ j h. early j ACCEPTANCE_DEADLINE (lit< tt) ∙ r.until j h;
  auto = λ j h. early j AUTO_ACCEPT (lit< tt) ∙ r.auto j h;
  pending = pending;
  code = code;
}

closed_recs : (t : List ℕ) (n : ℕ) (B : Book) (i st now signer : ℕ) → n ≤ rows_in RECEIPT_LEN t → i < n → eqb st PENDING ≡ false → RecsOf t n B
    → RecsOf (shut t RECEIPT_LEN i RECEIPT_STATE st RECEIPT_CLOSED_AT now RECEIPT_CLOSED_BY signer) n (closes i B)
unfolding closes
closed_recs t n B i st now signer rows_there i< closed r =
    recs_early t t' n B.claims B.note B.pending (at i false B.pending)
    (λ j k h.
    shut_col t RECEIPT_LEN i RECEIPT_STATE st RECEIPT_CLOSED_AT now RECEIPT_CLOSED_BY signer (lit< tt) (lit< tt) (lit< tt) j k (omega arith)
    (omega arith) (omega arith) (omega arith))
    (λ j h.
    at_cases (λ (b : Bool). eqb (word t' RECEIPT_LEN j RECEIPT_STATE) PENDING ≡ b) i j false B.pending
    (λ e. ap (λ (k : ℕ). eqb (word t' RECEIPT_LEN k RECEIPT_STATE) PENDING) e ∙ ap (λ (x : ℕ). eqb x PENDING) state ∙ closed)
    (λ e.
    ap (λ (x : ℕ). eqb x PENDING)
    (shut_row t RECEIPT_LEN i RECEIPT_STATE st RECEIPT_CLOSED_AT now RECEIPT_CLOSED_BY signer (lit< tt) (lit< tt) (lit< tt) j RECEIPT_STATE (lit< tt) e)
    ∙ r.pending j h))
    (λ j h.
    at_cases (λ (b : Bool). b ≡ true → word t' RECEIPT_LEN j RELEASE_CODE ≡ 0) i j false B.pending (λ e w. absurd (true≢false (sym w)))
    (λ e w.
    shut_col t RECEIPT_LEN i RECEIPT_STATE st RECEIPT_CLOSED_AT now RECEIPT_CLOSED_BY signer (lit< tt) (lit< tt) (lit< tt) j RELEASE_CODE (lit< tt)
    (omega arith) (omega arith) (omega arith)
    ∙ r.code j h w))
    r
  where
    t' : List ℕ
    t' = shut t RECEIPT_LEN i RECEIPT_STATE st RECEIPT_CLOSED_AT now RECEIPT_CLOSED_BY signer

    state : word t' RECEIPT_LEN i RECEIPT_STATE ≡ st
    state =
        shut_same t RECEIPT_LEN i RECEIPT_STATE st RECEIPT_CLOSED_AT now RECEIPT_CLOSED_BY signer (lit< tt) (lit< tt) (lit< tt) (omega arith) (omega arith)
        (in_table RECEIPT_LEN n i RECEIPT_STATE t (rows_fit RECEIPT_LEN n t rows_there) i< (lit< tt))

pub fits_close : (L : Ledger) (B : Book) → Good L → Fits L B → (i : ℕ) → i < receipt_count L → (st now signer : ℕ) → eqb st PENDING ≡ false
    → Fits (close_receipt st now signer i L) (closes i B)
unfolding close_receipt put_receipt closes
fits_close L B g f i i< st now signer c = record {
  acc = f.acc;
  escs = f.escs;
  recs = closed_recs L.receipts (receipt_count L) B i st now signer g.receipts_in i< c f.recs;
}

-- the release code of a receipt that does not wait
fits_code : (L : Ledger) (B : Book) → Fits L B → (i x : ℕ) → B.pending i ≡ false → Fits (put_receipt i RELEASE_CODE x L) B
unfolding put_receipt
fits_code L B f i x over =
    let t : List ℕ = L.receipts in
    let same : (j k : ℕ) → k < RELEASE_CODE → word (put t RECEIPT_LEN i RELEASE_CODE x) RECEIPT_LEN j k ≡ word t RECEIPT_LEN j k =
    λ j k h. word_col t RECEIPT_LEN i RELEASE_CODE x j k (lit< tt) (omega arith) (omega arith) in
    record {
      acc = f.acc;
      escs = f.escs;
      recs = recs_early t (put t RECEIPT_LEN i RELEASE_CODE x) (receipt_count L) B.claims B.note B.pending B.pending (λ j k h. same j k (omega arith))
          (λ j h. ap (λ (y : ℕ). eqb y PENDING) (same j RECEIPT_STATE (lit< tt)) ∙ f.recs.pending j h)
          (λ j h w.
          word_row t RECEIPT_LEN i RELEASE_CODE x j RELEASE_CODE (lit< tt) (lit< tt) (λ e. true≢false (sym w ∙ ap B.pending e ∙ over)) ∙ f.recs.code j h w)
          f.recs;
    }

-- ---- an accept, and what its word says

pub record Accepted (d : Done) (i : ℕ) (B C : Book) : Type 0 where
  pub fits : Fits d.after C
  pub named : cond (eqb d.word 0) (closes i B) (ends true (d.word - 1) (closes i B)) ≡ C

pub fits_accept : (L : Ledger) (B : Book) → Good L → Fits L B → (i : ℕ) → i < receipt_count L → (now signer : ℕ) → now ≤ LAST_TIME_MS
    → Accepted (accept_row now signer i L) i B (tries (B.note i).link now i B)
unfolding accept_row tries
fits_accept L B g f i i< now signer now_right =
    let k : ℕ = receipt L i RECEIPT_LINK in
    let closed : Ledger = close_receipt ACCEPTED now signer i L in
    let a : Kept L closed = kept_close L g i ACCEPTED now signer (lit≤ tt, lit≤ tt) now_right in
    let shut_it : Fits closed (closes i B) = fits_close L B g f i i< ACCEPTED now signer refl in
    subst (λ (k : ℕ). Accepted (accept_row now signer i L) i B (tries k now i B)) (f.recs.link i i<)
    (cond_rel (λ (d : Done) (C : Book). Accepted d i B C) (eqb k 0) (eqb k 0) (done 0 closed) _ (closes i B) _ refl
    (λ e. record { fits = shut_it; named = refl })
    (λ e.
    let k< : k - 1 < escrow_count L = link_row L g i i< (eqb-false k 0 e) in
    cond_rel (λ (d : Done) (C : Book). Accepted d i B C)
    (releasable L now (k - 1)) (B.live (k - 1) && leb now (B.deal (k - 1)).until) _ _ _ _
    (ap₂ (λ (b : Bool) (u : ℕ). b && leb now u) (f.escs.live (k - 1) k<) (f.escs.until (k - 1) k<))
    (λ h. record {
      fits =
          fits_end closed (closes i B) a.good shut_it (k - 1) (row_kept ESCROWS a k<)
          (unfold closes in sym (f.escs.live (k - 1) k<) ∙ and_fst (eqb (escrow L (k - 1) ESCROW_STATE) IS_OPEN) _ h) RELEASED now signer refl;
      named = ap (λ (b : Bool). cond b (closes i B) (ends true (k - 1) (closes i B))) e;
    })
    (λ h. record {
      fits = fits_code closed (closes i B) shut_it i RELEASE_IMPOSSIBLE (unfold closes in at_cases (λ (b : Bool). b ≡ false) i i false B.pending (λ e. refl) (λ ne. absurd (ne refl)));
      named = refl;
    })))
