-- The ends of escrows and of receipts keep a ledger good: an accept does, and so does each prefix of a sweep's two loops. They leave the
-- header alone, so that every count stays.
use mathlib.Core.Path.{◌≡◌, refl, sym, ◌∙◌, subst}
use mathlib.Core.Logic.{◌≢◌}
use mathlib.Core.List.{List}
use mathlib.Core.Bool.{true, false, ◌&&◌}
use Prim.Native.Nat.{ℕ, zero, suc, ◌-◌, ◌≤◌, ◌<◌}
use native.Mathlib.Nat.{le_refl}
use native.Mathlib.Omega.{arith}
use lib.ListN.{get_or}
use lib.Dec.{eqb, ltb, lit≤}
use borrow.Author.Tests.{eqb-false}
use Rattle.rules.specs.Limits.{LAST_TIME_MS, GRANTED, ESCROWS, RECEIPTS, ESCROW_STATE, IS_OPEN, RELEASED}
use Rattle.rules.specs.Limits.{RECEIPT_LINK, AUTO_ACCEPT, RELEASE_CODE, RELEASE_IMPOSSIBLE, ACCEPTED}
use Rattle.rules.specs.Table.{loop}
use Rattle.rules.specs.Ledger.{Ledger, head, escrow, receipt, wallet_count, escrow_count, receipt_count, put_wallet, put_escrow, put_receipt}
use Rattle.rules.specs.Refusals.{releasable}
use Rattle.rules.specs.Settle.{raise, lower, end_escrow, close_receipt, Done, done, accept_row, Sweep, sweep_start, due_receipt, due_escrow}
use Rattle.rules.specs.Settle.{close_due_receipt, close_due_escrow, sweep_receipt, sweep_escrow, swept_receipts, swept}
use Rattle.rules.proofs.Bools.{and_fst, and_snd, cond_case}
use Rattle.rules.proofs.Tests.{State}
use Rattle.rules.proofs.Good.{Good}
use Rattle.rules.proofs.Ends.{ended_tables, closing_shut, closing_code, closed_tables}

-- K is good, and has the header and the edition of L
pub record Kept (L K : Ledger) : Type 0 where
  pub good : Good K
  pub header : K.header ≡ L.header
  pub edition : K.edition ≡ L.edition

pub kept_start : (L : Ledger) → Good L → Kept L L
kept_start L g = record { good = g; header = refl; edition = refl }

pub kept_then : {L K M : Ledger} → Kept L K → Kept K M → Kept L M
kept_then a b = record { good = b.good; header = b.header ∙ a.header; edition = b.edition ∙ a.edition }

-- a row of L is one of K
pub row_kept : {L K : Ledger} (k : ℕ) {i : ℕ} → Kept L K → i < head L k → i < head K k
row_kept k {i} a h = subst (λ (t : List ℕ). i < get_or t k 0) (sym a.header) h

-- ---- one row closes

pub kept_end : (L : Ledger) → Good L → (i : ℕ) → i < escrow_count L → eqb (escrow L i ESCROW_STATE) IS_OPEN ≡ true
    → (st now signer : ℕ) → eqb st IS_OPEN ≡ false → State st → now ≤ LAST_TIME_MS → Kept L (end_escrow st now signer i L)
unfolding end_escrow raise lower put_wallet put_escrow
kept_end L g i i< o st now signer c st_right now_right = record {
  good = ended_tables L.wallets (wallet_count L) (head L GRANTED) L.escrows L.edition.escrow (escrow_count L) L.receipts (receipt_count L)
      g i i< o (eqb st RELEASED) st now signer c st_right now_right;
  header = refl;
  edition = refl;
}

pub kept_close : (L : Ledger) → Good L → (i st now signer : ℕ) → State st → now ≤ LAST_TIME_MS → Kept L (close_receipt st now signer i L)
unfolding close_receipt put_receipt
kept_close L g i st now signer st_right now_right = record {
  good = closed_tables L.wallets (wallet_count L) (head L GRANTED) L.escrows L.edition.escrow (escrow_count L) L.receipts (receipt_count L)
      _ g (closing_shut L.receipts i st now signer st_right now_right);
  header = refl;
  edition = refl;
}

pub kept_code : (L : Ledger) → Good L → (i x : ℕ) → Kept L (put_receipt i RELEASE_CODE x L)
unfolding put_receipt
kept_code L g i x = record {
  good = closed_tables L.wallets (wallet_count L) (head L GRANTED) L.escrows L.edition.escrow (escrow_count L) L.receipts (receipt_count L)
      _ g (closing_code L.receipts i x);
  header = refl;
  edition = refl;
}

-- the escrow of a link is a row
pub link_row : (L : Ledger) → Good L → (i : ℕ) → i < receipt_count L → receipt L i RECEIPT_LINK ≢ 0 → receipt L i RECEIPT_LINK - 1 < escrow_count L
link_row L g i i< some_link = omega (arith, g.links i i<)

-- closing a receipt leaves the escrows
still_open : (st now signer i : ℕ) (L : Ledger) (j : ℕ) → eqb (escrow L j ESCROW_STATE) IS_OPEN ≡ true
    → eqb (escrow (close_receipt st now signer i L) j ESCROW_STATE) IS_OPEN ≡ true
unfolding close_receipt put_receipt
still_open st now signer i L j h = h

pub kept_accept : (L : Ledger) → Good L → (i : ℕ) → i < receipt_count L → (now signer : ℕ) → now ≤ LAST_TIME_MS → Kept L (accept_row now signer i L).after
unfolding accept_row
kept_accept L g i i< now signer now_right =
    let k : ℕ = receipt L i RECEIPT_LINK in
    let closed : Ledger = close_receipt ACCEPTED now signer i L in
    let a : Kept L closed = kept_close L g i ACCEPTED now signer (lit≤ tt, lit≤ tt) now_right in
    cond_case (λ (d : Done). Kept L d.after) (eqb k 0) (done 0 closed) _ (λ e. a)
    (λ e.
    cond_case (λ (d : Done). Kept L d.after) (releasable L now (k - 1)) _ _
    (λ h.
    kept_then a
    (kept_end closed a.good (k - 1) (row_kept ESCROWS a (link_row L g i i< (eqb-false k 0 e)))
    (still_open ACCEPTED now signer i L (k - 1) (and_fst (eqb (escrow L (k - 1) ESCROW_STATE) IS_OPEN) _ h)) _ _ _ refl (lit≤ tt, lit≤ tt) now_right))
    (λ h. kept_then a (kept_code closed a.good i RELEASE_IMPOSSIBLE)))

-- ---- a sweep

-- what each turn keeps, the loop keeps
pub loop_keeps {κ} : {S : Type 0} (P : S → Type κ) (n : ℕ) (f : ℕ → S → S) → ((i : ℕ) → i < n → (s : S) → P s → P (f i s)) → (s : S) → P s → P (loop n f s)
unfolding loop
loop_keeps P zero f h s a = a
loop_keeps P (suc n) f h s a = h n (omega arith) (loop n f s) (loop_keeps P n f (λ i l. h i (omega arith)) s a)

module _ (L : Ledger) (now : ℕ) (now_right : now ≤ LAST_TIME_MS) where
  pub kept_due_receipt : (K : Ledger) → Good K → (i : ℕ) → i < receipt_count K → Kept K (close_due_receipt now i K)
  unfolding close_due_receipt
  kept_due_receipt K g i i< =
      cond_case (Kept K) (eqb (receipt K i AUTO_ACCEPT) 1) _ _ (λ h. kept_accept K g i i< _ _ (omega arith))
      (λ h. kept_close K g i _ _ _ (lit≤ tt, lit≤ tt) (omega arith))

  pub kept_due_escrow : (K : Ledger) → Good K → (i : ℕ) → i < escrow_count K → due_escrow K now i ≡ true → Kept K (close_due_escrow now i K)
  unfolding close_due_escrow
  kept_due_escrow K g i i< h =
      kept_end K g i i< (and_fst (eqb (escrow K i ESCROW_STATE) IS_OPEN) _ h) _ _ _ refl (lit≤ tt, lit≤ tt) (omega arith)

  pub receipt_turn : (i : ℕ) → i < receipt_count L → (s : Sweep) → Kept L s.tables → Kept L (sweep_receipt now i s).tables
  unfolding sweep_receipt
  receipt_turn i i< s a =
      cond_case (λ (z : Sweep). Kept L z.tables) (ltb 0 s.room && due_receipt s.tables now i) _ s
      (λ e. kept_then a (kept_due_receipt s.tables a.good i (row_kept RECEIPTS a i<))) (λ e. a)

  pub escrow_turn : (i : ℕ) → i < escrow_count L → (s : Sweep) → Kept L s.tables → Kept L (sweep_escrow now i s).tables
  unfolding sweep_escrow
  escrow_turn i i< s a =
      cond_case (λ (z : Sweep). Kept L z.tables) (ltb 0 s.room && due_escrow s.tables now i) _ s
      (λ e. kept_then a (kept_due_escrow s.tables a.good i (row_kept ESCROWS a i<) (and_snd (ltb 0 s.room) _ e))) (λ e. a)

  -- after the first n turns of each loop
  module _ (good : Good L) (limit : ℕ) where
    pub receipts_swept : (n : ℕ) → n ≤ receipt_count L → Kept L (loop n (sweep_receipt now) (sweep_start limit L)).tables
    receipts_swept n h =
        loop_keeps (λ (s : Sweep). Kept L s.tables) n (sweep_receipt now) (λ i l. receipt_turn i (omega arith)) (sweep_start limit L) (kept_start L good)

    pub escrows_swept : (n : ℕ) → n ≤ escrow_count L → Kept L (loop n (sweep_escrow now) (swept_receipts now limit L)).tables
    unfolding swept_receipts
    escrows_swept n h =
        loop_keeps (λ (s : Sweep). Kept L s.tables) n (sweep_escrow now) (λ i l. escrow_turn i (omega arith)) _ (receipts_swept (receipt_count L) (le_refl (receipt_count L)))

    pub kept_sweep : Kept L (swept now limit L).tables
    unfolding swept
    kept_sweep = escrows_swept (escrow_count L) (le_refl (escrow_count L))
