-- Three good tables stay good where an open escrow ends (its amount moves from its sender's locked to a balance, and three of its words are
-- set) and where a receipt is closed or a release code stored. The laws name tables and counts only; Stays says the same of ledgers.
use mathlib.Core.Path.{◌≡◌, sym, ap, ◌∙◌, subst, subst₂}
use mathlib.Core.Logic.{◌≢◌}
use mathlib.Core.List.{List}
use mathlib.Core.Bool.{Bool, true, false, cond, ◌&&◌}
use Prim.Native.Nat.{ℕ, ◌+◌, ◌-◌, ◌/◌, ◌≤◌, ◌<◌}
use native.Mathlib.Omega.{arith}
use lib.ListN.{length}
use lib.Dec.{eqb, lit<, lit≤}
use Rattle.rules.specs.Limits.{WALLET_LEN, RECEIPT_LEN, LAST_TIME_MS, MAX_AMOUNT_MICRO, ID, BALANCE, LOCKED, FROZEN, IS_CLOSED}
use Rattle.rules.specs.Limits.{FROM, TO, ESCROW_AMOUNT, ESCROW_DEADLINE, ESCROW_STATE, OPENED_AT, ESCROW_CLOSED_AT, ESCROW_CLOSED_BY, IS_OPEN}
use Rattle.rules.specs.Limits.{PROVIDER, REQUESTER, RECEIPT_LINK, ACCEPTANCE_DEADLINE, AUTO_ACCEPT, RECEIPT_STATE, CLAIMED_AT, RECEIPT_CLOSED_AT}
use Rattle.rules.specs.Limits.{RECEIPT_CLOSED_BY, RELEASE_CODE}
use Rattle.rules.specs.Table.{word, put}
use Rattle.rules.specs.Ledger.{row_of}
use Rattle.rules.proofs.Bools.{cond_case}
use Rattle.rules.proofs.Rows.{rows_fit, length_put, word_col}
use Rattle.rules.proofs.Accounts.{bal, total}
use Rattle.rules.proofs.Moves.{mv, length_mv, row_mv, distinct_mv, mv_col, mv_bal, mv_total, shut, shut_col, shut_first, shut_second, length_shut, held_sum}
use Rattle.rules.proofs.Tests.{State, WRow, ERow}
use Rattle.rules.proofs.Good.{GoodTables, amount_held}

-- ---- an open escrow ends

module _ (ws : List ℕ) (nw g : ℕ) (es : List ℕ) (len ne : ℕ) (rs : List ℕ) (nr : ℕ) (good : GoodTables ws nw g es len ne rs nr)
    (i : ℕ) (i< : i < ne) (open_i : eqb (word es len i ESCROW_STATE) IS_OPEN ≡ true) (paid : Bool) where
  F : ℕ
  F = word es len i FROM

  R : ℕ
  R = cond paid (word es len i TO) (word es len i FROM)

  A : ℕ
  A = word es len i ESCROW_AMOUNT

  r_row : row_of ws nw R < nw
  unfolding R
  r_row = cond_case (λ (v : ℕ). row_of ws nw v < nw) paid (word es len i TO) (word es len i FROM) (λ _. good.to_row i i<) (λ _. good.from_row i i<)

  -- its amount goes from its sender's locked to the balance of R
  pub ended_bal : (e v : ℕ) → e < WALLET_LEN
      → bal (mv ws nw LOCKED (word es len i FROM) BALANCE (cond paid (word es len i TO) (word es len i FROM)) (word es len i ESCROW_AMOUNT)) nw v e
      + cond (eqb e LOCKED && eqb v (word es len i FROM)) (word es len i ESCROW_AMOUNT) 0
      ≡ bal ws nw v e + cond (eqb e BALANCE && eqb v (cond paid (word es len i TO) (word es len i FROM))) (word es len i ESCROW_AMOUNT) 0
  unfolding F R A
  ended_bal =
      mv_bal ws nw LOCKED F BALANCE R A (lit≤ tt) (lit≤ tt) (lit≤ tt) (lit≤ tt) (rows_fit WALLET_LEN nw ws good.wallets_in) (good.from_row i i<) r_row
      (amount_held ws nw g es len ne rs nr good i i< open_i)

  pub ended_total : total (mv ws nw LOCKED (word es len i FROM) BALANCE (cond paid (word es len i TO) (word es len i FROM)) (word es len i ESCROW_AMOUNT)) nw ≡ total ws nw
  unfolding F R A
  ended_total =
      mv_total ws nw LOCKED F BALANCE R A (lit≤ tt) (lit≤ tt) (lit≤ tt) (lit≤ tt) (rows_fit WALLET_LEN nw ws good.wallets_in) (good.from_row i i<) r_row
      (amount_held ws nw g es len ne rs nr good i i< open_i)

  module _ (st now signer : ℕ) (closed : eqb st IS_OPEN ≡ false) (st_right : State st) (now_right : now ≤ LAST_TIME_MS) where
    c4 : ESCROW_STATE < len
    c4 = omega (arith, good.wide)

    c6 : ESCROW_CLOSED_AT < len
    c6 = omega (arith, good.wide)

    c7 : ESCROW_CLOSED_BY < len
    c7 = omega (arith, good.wide)

    ws' : List ℕ
    ws' = mv ws nw LOCKED F BALANCE R A

    es' : List ℕ
    es' = shut es len i ESCROW_STATE st ESCROW_CLOSED_AT now ESCROW_CLOSED_BY signer

    rows : (v : ℕ) → row_of ws' nw v ≡ row_of ws nw v
    unfolding ws'
    rows v = row_mv ws nw LOCKED F BALANCE R A (lit< tt) (omega arith) (lit< tt) (omega arith) v

    wallet_col : (j k : ℕ) → k < WALLET_LEN → k ≢ LOCKED → k ≢ BALANCE → word ws' WALLET_LEN j k ≡ word ws WALLET_LEN j k
    unfolding ws'
    wallet_col j k k< a b = mv_col ws nw LOCKED F BALANCE R A (lit< tt) (omega arith) (lit< tt) (omega arith) j k k< a b

    escrow_col : (j k : ℕ) → k < 6 → k ≢ ESCROW_STATE → word es' len j k ≡ word es len j k
    unfolding es'
    escrow_col j k h a = shut_col es len i ESCROW_STATE st ESCROW_CLOSED_AT now ESCROW_CLOSED_BY signer c4 c6 c7 j k (omega (arith, good.wide)) a (omega arith) (omega arith)

    party : (j k : ℕ) → k < 2 → row_of ws nw (word es len j k) < nw → row_of ws' nw (word es' len j k) < nw
    party j k h l = subst (λ (r : ℕ). r < nw) (sym (rows (word es' len j k) ∙ ap (row_of ws nw) (escrow_col j k (omega arith) (omega arith)))) l

    wallets_stay : (j : ℕ) → WRow ws j → WRow ws' j
    wallets_stay j r = record {
      id = subst (λ (x : ℕ). 0 < x) (sym (wallet_col j ID (lit< tt) (omega arith) (omega arith))) r.id;
      frozen = subst (λ (x : ℕ). x ≤ IS_CLOSED) (sym (wallet_col j FROZEN (lit< tt) (omega arith) (omega arith))) r.frozen;
    }

    escrows_stay : (j : ℕ) → ERow es len j → ERow es' len j
    unfolding es'
    escrows_stay j r = record {
      parties = subst₂ (λ (x y : ℕ). x ≢ y) (sym (escrow_col j FROM (lit< tt) (omega arith))) (sym (escrow_col j TO (lit< tt) (omega arith))) r.parties;
      low = subst (λ (x : ℕ). 1 ≤ x) (sym (escrow_col j ESCROW_AMOUNT (lit< tt) (omega arith))) r.low;
      high = subst (λ (x : ℕ). x ≤ MAX_AMOUNT_MICRO) (sym (escrow_col j ESCROW_AMOUNT (lit< tt) (omega arith))) r.high;
      until = subst (λ (x : ℕ). x ≤ LAST_TIME_MS) (sym (escrow_col j ESCROW_DEADLINE (lit< tt) (omega arith))) r.until;
      opened = subst (λ (x : ℕ). x ≤ LAST_TIME_MS) (sym (escrow_col j OPENED_AT (lit< tt) (omega arith))) r.opened;
      closed = shut_second es len i ESCROW_STATE st ESCROW_CLOSED_AT now ESCROW_CLOSED_BY signer c4 c6 c7 (λ (x : ℕ). x ≤ LAST_TIME_MS) j (omega arith) (omega arith) r.closed now_right;
      state = shut_first es len i ESCROW_STATE st ESCROW_CLOSED_AT now ESCROW_CLOSED_BY signer c4 c6 c7 State j (omega arith) (omega arith) r.state st_right;
    }

    pub ended_tables :
        GoodTables
        (mv ws nw LOCKED (word es len i FROM) BALANCE (cond paid (word es len i TO) (word es len i FROM)) (word es len i ESCROW_AMOUNT)) nw g
        (shut es len i ESCROW_STATE st ESCROW_CLOSED_AT now ESCROW_CLOSED_BY signer) len ne rs nr
    unfolding F R A ws' es'
    ended_tables = record {
      wide = good.wide;
      wallets_in = subst (λ (k : ℕ). nw ≤ k / WALLET_LEN) (sym (length_mv ws nw LOCKED F BALANCE R A)) good.wallets_in;
      escrows_in = subst (λ (k : ℕ). ne ≤ k / len) (sym (length_shut es len i ESCROW_STATE st ESCROW_CLOSED_AT now ESCROW_CLOSED_BY signer c4 c6 c7)) good.escrows_in;
      receipts_in = good.receipts_in;
      distinct = distinct_mv ws nw LOCKED F BALANCE R A (lit< tt) (omega arith) (lit< tt) (omega arith) good.distinct;
      totals = ended_total ∙ good.totals;
      most = good.most;
      from_row = λ j h. party j FROM (lit< tt) (good.from_row j h);
      to_row = λ j h. party j TO (lit< tt) (good.to_row j h);
      locked = λ v.
          let x = ended_bal LOCKED v (lit< tt) in
          let y = held_sum es len ne i st now signer v good.wide (rows_fit len ne es good.escrows_in) i< open_i closed in
          omega (arith, x, y, good.locked v);
      links = good.links;
      linked = λ j h some_link.
          let p = good.linked j h some_link in
          record { from = escrow_col _ FROM (lit< tt) (omega arith) ∙ p.from; to = escrow_col _ TO (lit< tt) (omega arith) ∙ p.to };
      wallet_rows = λ j h. wallets_stay j (good.wallet_rows j h);
      escrow_rows = λ j h. escrows_stay j (good.escrow_rows j h);
      receipt_rows = good.receipt_rows;
    }

-- ---- receipts change in state, closing and code only

pub record Closing (t t' : List ℕ) : Type 0 where
  pub length_same : length t' ≡ length t
  pub early : (j k : ℕ) → k < RECEIPT_STATE → word t' RECEIPT_LEN j k ≡ word t RECEIPT_LEN j k
  pub claimed : (j : ℕ) → word t' RECEIPT_LEN j CLAIMED_AT ≡ word t RECEIPT_LEN j CLAIMED_AT
  pub states : (j : ℕ) → State (word t RECEIPT_LEN j RECEIPT_STATE) → State (word t' RECEIPT_LEN j RECEIPT_STATE)
  pub times : (j : ℕ) → word t RECEIPT_LEN j RECEIPT_CLOSED_AT ≤ LAST_TIME_MS → word t' RECEIPT_LEN j RECEIPT_CLOSED_AT ≤ LAST_TIME_MS

pub closing_shut : (t : List ℕ) (i st now signer : ℕ) → State st → now ≤ LAST_TIME_MS
    → Closing t (shut t RECEIPT_LEN i RECEIPT_STATE st RECEIPT_CLOSED_AT now RECEIPT_CLOSED_BY signer)
closing_shut t i st now signer st_right now_right = record {
  length_same = length_shut t RECEIPT_LEN i RECEIPT_STATE st RECEIPT_CLOSED_AT now RECEIPT_CLOSED_BY signer (lit< tt) (lit< tt) (lit< tt);
  early = λ j k h. shut_col t RECEIPT_LEN i RECEIPT_STATE st RECEIPT_CLOSED_AT now RECEIPT_CLOSED_BY signer (lit< tt) (lit< tt) (lit< tt) j k (omega arith) (omega arith) (omega arith) (omega arith);
  claimed = λ j. shut_col t RECEIPT_LEN i RECEIPT_STATE st RECEIPT_CLOSED_AT now RECEIPT_CLOSED_BY signer (lit< tt) (lit< tt) (lit< tt) j CLAIMED_AT (lit< tt) (omega arith) (omega arith) (omega arith);
  states = λ j old. shut_first t RECEIPT_LEN i RECEIPT_STATE st RECEIPT_CLOSED_AT now RECEIPT_CLOSED_BY signer (lit< tt) (lit< tt) (lit< tt) State j (omega arith) (omega arith) old st_right;
  times = λ j old. shut_second t RECEIPT_LEN i RECEIPT_STATE st RECEIPT_CLOSED_AT now RECEIPT_CLOSED_BY signer (lit< tt) (lit< tt) (lit< tt) (λ (x : ℕ). x ≤ LAST_TIME_MS) j (omega arith) (omega arith) old now_right;
}

pub closing_code : (t : List ℕ) (i x : ℕ) → Closing t (put t RECEIPT_LEN i RELEASE_CODE x)
closing_code t i x = record {
  length_same = length_put t RECEIPT_LEN i RELEASE_CODE x;
  early = λ j k h. same j k (omega arith);
  claimed = λ j. same j CLAIMED_AT (lit< tt);
  states = λ j old. subst State (sym (same j RECEIPT_STATE (lit< tt))) old;
  times = λ j old. subst (λ (k : ℕ). k ≤ LAST_TIME_MS) (sym (same j RECEIPT_CLOSED_AT (lit< tt))) old;
}
  where
    same : (j k : ℕ) → k < RELEASE_CODE → word (put t RECEIPT_LEN i RELEASE_CODE x) RECEIPT_LEN j k ≡ word t RECEIPT_LEN j k
    same j k h = word_col t RECEIPT_LEN i RELEASE_CODE x j k (lit< tt) (omega arith) (omega arith)

pub closed_tables : (ws : List ℕ) (nw g : ℕ) (es : List ℕ) (len ne : ℕ) (rs : List ℕ) (nr : ℕ) (rs' : List ℕ)
    → GoodTables ws nw g es len ne rs nr → Closing rs rs' → GoodTables ws nw g es len ne rs' nr
closed_tables ws nw g es len ne rs nr rs' good c = record {
  wide = good.wide;
  wallets_in = good.wallets_in;
  escrows_in = good.escrows_in;
  receipts_in = subst (λ (k : ℕ). nr ≤ k / RECEIPT_LEN) (sym c.length_same) good.receipts_in;
  distinct = good.distinct;
  totals = good.totals;
  most = good.most;
  from_row = good.from_row;
  to_row = good.to_row;
  locked = good.locked;
  links = λ j h. subst (λ (k : ℕ). k ≤ ne) (sym (c.early j RECEIPT_LINK (lit< tt))) (good.links j h);
  linked = λ j h some_link.
      let l = c.early j RECEIPT_LINK (lit< tt) in
      let p = good.linked j h (λ x. some_link (l ∙ x)) in
      record {
        from = ap (λ (k : ℕ). word es len (k - 1) FROM) l ∙ p.from ∙ sym (c.early j REQUESTER (lit< tt));
        to = ap (λ (k : ℕ). word es len (k - 1) TO) l ∙ p.to ∙ sym (c.early j PROVIDER (lit< tt));
      };
  wallet_rows = good.wallet_rows;
  escrow_rows = good.escrow_rows;
  receipt_rows = λ j h.
      let r = good.receipt_rows j h in
      record {
        until = subst (λ (x : ℕ). x ≤ LAST_TIME_MS) (sym (c.early j ACCEPTANCE_DEADLINE (lit< tt))) r.until;
        claimed = subst (λ (x : ℕ). x ≤ LAST_TIME_MS) (sym (c.claimed j)) r.claimed;
        closed = c.times j r.closed;
        auto = subst (λ (x : ℕ). x ≤ 1) (sym (c.early j AUTO_ACCEPT (lit< tt))) r.auto;
        state = c.states j r.state;
      };
}
