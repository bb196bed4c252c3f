-- A wallet that is needed is made if it is missing: what `ensure_wallet` keeps. A new wallet has nothing in it and no escrow names it, so a
-- good ledger stays good, and nobody's balance changes.
use mathlib.Core.Path.{◌≡◌, refl, sym, ◌∙◌, subst, subst₃}
use mathlib.Core.Logic.{◌≢◌}
use mathlib.Core.List.{List}
use mathlib.Core.Bool.{false}
use Prim.Native.Nat.{ℕ, ◌+◌, ◌*◌, ◌/◌, ◌≤◌, ◌<◌}
use native.Mathlib.Decide.{ℕ_discrete}
use native.Mathlib.Omega.{arith}
use lib.ListN.{get_or, set, length, length-set}
use lib.Seq.{get_or-set_same, get_or-set_other}
use lib.Dec.{lit<, lit≤}
use borrow.Author.Tests.{ltb-true, ltb-false}
use Rattle.rules.specs.Limits.{WALLET_LEN, GRANTED, WALLETS, ESCROWS, RECEIPTS, ID, LOCKED, FROZEN, IS_CLOSED, FROM, TO}
use Rattle.rules.specs.Table.{word, put_row, rows_in}
use Rattle.rules.specs.Ledger.{Ledger, head, wallet_count, escrow_count, receipt_count, row_of, wallet_row, has_wallet, put_head, new_wallet}
use Rattle.rules.specs.Settle.{blank_wallet, ensure_wallet}
use Rattle.rules.proofs.Bools.{cond_case}
use Rattle.rules.proofs.Rows.{room, length_put_row, word_new, word_old}
use Rattle.rules.proofs.Accounts.{bal, row_le, new_row_old, new_row_id, new_bal, new_total, distinct_new}
use Rattle.rules.proofs.Tests.{WRow}
use Rattle.rules.proofs.Good.{GoodTables, Good}

-- where there is no wallet of id, there is room for one
abbrev pub WalletPlace : Ledger → ℕ → Type 0
WalletPlace L id = has_wallet L id ≡ false → wallet_count L < rows_in WALLET_LEN L.wallets

module _ (ws : List ℕ) (nw g : ℕ) (es : List ℕ) (len ne : ℕ) (rs : List ℕ) (nr : ℕ) (good : GoodTables ws nw g es len ne rs nr)
    (id : ℕ) (some_id : 0 < id) (place : nw < rows_in WALLET_LEN ws) (missing : row_of ws nw id ≡ nw) where
  ws' : List ℕ
  ws' = put_row ws WALLET_LEN nw (blank_wallet id)

  fits : nw * WALLET_LEN + WALLET_LEN ≤ length ws
  fits = room WALLET_LEN nw ws place

  row_stays : (v : ℕ) → row_of ws nw v < nw → row_of ws' (nw + 1) v < nw + 1
  unfolding ws'
  row_stays v l = rw (new_row_old ws nw id (blank_wallet id) refl refl refl refl fits missing v l) (omega arith)

  row_right : (i : ℕ) → i < nw + 1 → Dec (i ≡ nw) → WRow ws' i
  unfolding ws'
  row_right i h (yes e) = subst (λ (k : ℕ). WRow ws' k) (sym e) (record {
    id = subst (λ (x : ℕ). 0 < x) (sym (word_new ws WALLET_LEN nw ID (blank_wallet id) fits (lit< tt))) some_id;
    frozen = subst (λ (x : ℕ). x ≤ IS_CLOSED) (sym (word_new ws WALLET_LEN nw FROZEN (blank_wallet id) fits (lit< tt))) (lit≤ tt);
  })
  row_right i h (no e) =
      let l : i < nw = omega (arith, h, e) in
      record {
        id = subst (λ (x : ℕ). 0 < x) (sym (word_old ws WALLET_LEN nw i ID (blank_wallet id) l (lit< tt))) (good.wallet_rows i l).id;
        frozen = subst (λ (x : ℕ). x ≤ IS_CLOSED) (sym (word_old ws WALLET_LEN nw i FROZEN (blank_wallet id) l (lit< tt))) (good.wallet_rows i l).frozen;
      }

  pub new_tables : GoodTables (put_row ws WALLET_LEN nw (blank_wallet id)) (nw + 1) g es len ne rs nr
  unfolding ws'
  new_tables = record {
    wide = good.wide;
    wallets_in = subst (λ (k : ℕ). nw + 1 ≤ k / WALLET_LEN) (sym (length_put_row ws WALLET_LEN nw (blank_wallet id))) (omega (arith, place));
    escrows_in = good.escrows_in;
    receipts_in = good.receipts_in;
    distinct = distinct_new ws nw id (blank_wallet id) refl refl refl refl fits missing good.distinct;
    totals = new_total ws nw id (blank_wallet id) refl refl refl refl fits missing ∙ good.totals;
    most = good.most;
    from_row = λ i h. row_stays (word es len i FROM) (good.from_row i h);
    to_row = λ i h. row_stays (word es len i TO) (good.to_row i h);
    locked = λ v. new_bal ws nw id (blank_wallet id) refl refl refl refl fits missing v LOCKED (lit< tt) refl ∙ good.locked v;
    links = good.links;
    linked = good.linked;
    wallet_rows = λ i h. row_right i h (ℕ_discrete i nw);
    escrow_rows = good.escrow_rows;
    receipt_rows = good.receipt_rows;
  }

-- K is L with a wallet of id
pub record Ensured (L K : Ledger) (id : ℕ) : Type 0 where
  pub good : Good K
  pub found : wallet_row K id < wallet_count K
  pub keeps : (v : ℕ) → wallet_row L v < wallet_count L → wallet_row K v < wallet_count K
  pub same : (v k : ℕ) → k < WALLET_LEN → get_or (blank_wallet id) k 0 ≡ 0
      → bal K.wallets (wallet_count K) v k ≡ bal L.wallets (wallet_count L) v k
  pub others : (k : ℕ) → k ≢ WALLETS → head K k ≡ head L k
  pub header : length K.header ≡ length L.header
  pub edition : K.edition ≡ L.edition
  pub escrows : K.escrows ≡ L.escrows
  pub receipts : K.receipts ≡ L.receipts

pub ensured : (L : Ledger) (id : ℕ) → Good L → 8 ≤ length L.header → 0 < id → WalletPlace L id → Ensured L (ensure_wallet id L) id
unfolding ensure_wallet new_wallet put_head
ensured L id g wide some_id place =
    cond_case (λ (K : Ledger). Ensured L K id) (has_wallet L id) L _
    (λ e. record {
      good = g;
      found = ltb-true _ _ e;
      keeps = λ v h. h;
      same = λ v k h z. refl;
      others = λ k h. refl;
      header = refl;
      edition = refl;
      escrows = refl;
      receipts = refl;
    })
    (λ e.
    let ws = L.wallets in
    let n = wallet_count L in
    let h = L.header in
    let p = place e in
    let fits = room WALLET_LEN n ws p in
    let m : row_of ws n id ≡ n = omega (arith, ltb-false (row_of ws n id) n e, row_le ws n id) in
    let ws' : List ℕ = put_row ws WALLET_LEN n (blank_wallet id) in
    let count : get_or (set h WALLETS (n + 1)) WALLETS 0 ≡ n + 1 = get_or-set_same h WALLETS (n + 1) 0 (omega arith) in
    let others : (k : ℕ) → k ≢ WALLETS → get_or (set h WALLETS (n + 1)) k 0 ≡ get_or h k 0 = λ k ne. get_or-set_other h WALLETS k (n + 1) 0 ne in
    record {
      good =
          subst₃ (λ (a b c : ℕ). GoodTables ws' a (get_or (set h WALLETS (n + 1)) GRANTED 0) L.escrows L.edition.escrow b L.receipts c)
          (sym count) (sym (others ESCROWS (omega arith))) (sym (others RECEIPTS (omega arith)))
          (subst (λ (k : ℕ). GoodTables ws' (n + 1) k L.escrows L.edition.escrow (escrow_count L) L.receipts (receipt_count L)) (sym (others GRANTED (omega arith)))
          (new_tables ws n (head L GRANTED) L.escrows L.edition.escrow (escrow_count L) L.receipts (receipt_count L) g id some_id p m));
      found = subst (λ (k : ℕ). row_of ws' k id < k) (sym count) (rw (new_row_id ws n id (blank_wallet id) refl refl refl refl fits m) (omega arith));
      keeps = λ v l. subst (λ (k : ℕ). row_of ws' k v < k) (sym count) (rw (new_row_old ws n id (blank_wallet id) refl refl refl refl fits m v l) (omega arith));
      same = λ v k k< z. subst (λ (c : ℕ). bal ws' c v k ≡ bal ws n v k) (sym count) (new_bal ws n id (blank_wallet id) refl refl refl refl fits m v k k< z);
      others = others;
      header = length-set h WALLETS (n + 1);
      edition = refl;
      escrows = refl;
      receipts = refl;
    })
