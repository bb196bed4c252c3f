-- Three good tables stay good where words of wallets are set, where credits are locked for a new escrow, and where a receipt is claimed. The
-- laws name tables and counts only; SoundStays says the same of ledgers. (That the ends of escrows and receipts keep them good is in Ends.)
use mathlib.Core.Path.{◌≡◌, sym, ap, ap₂, ◌∙◌, subst, subst₂}
use mathlib.Core.Logic.{◌≢◌}
use mathlib.Core.List.{List, [], ◌∷◌}
use mathlib.Core.Bool.{Bool, cond, ◌&&◌}
use Prim.Native.Nat.{ℕ, ◌+◌, ◌-◌, ◌/◌, ◌≤◌, ◌<◌}
use native.Mathlib.Decide.{ℕ_discrete}
use native.Mathlib.Omega.{arith}
use lib.ListN.{get_or, length}
use lib.Dec.{eqb, lit<, lit≤}
use Rattle.rules.specs.Limits.{WALLET_LEN, RECEIPT_LEN, LAST_TIME_MS, MAX_AMOUNT_MICRO, MAX_GRANTED_MICRO, ID, BALANCE, LOCKED, FROZEN, IS_CLOSED, IS_OPEN}
use Rattle.rules.specs.Limits.{FROM, TO, ESCROW_AMOUNT, ESCROW_DEADLINE, ESCROW_STATE, OPENED_AT, ESCROW_CLOSED_AT}
use Rattle.rules.specs.Limits.{PROVIDER, REQUESTER, RECEIPT_LINK, ACCEPTANCE_DEADLINE, AUTO_ACCEPT, RECEIPT_STATE, CLAIMED_AT, RECEIPT_CLOSED_AT}
use Rattle.rules.specs.Table.{word, put, put_row, rows_in, sum}
use Rattle.rules.specs.Ledger.{row_of}
use Rattle.rules.proofs.Rows.{rows_fit, room, word_col, word_new, word_old, length_put, length_put_row, put_prop}
use Rattle.rules.proofs.Counts.{sum_ext, sum_step}
use Rattle.rules.proofs.Accounts.{bal, total, row_put, Distinct}
use Rattle.rules.proofs.Moves.{mv, mv_bal, mv_total, held_at, and_true, eqb_sym}
use Rattle.rules.proofs.Tests.{State, WRow, ERow, RRow}
use Rattle.rules.proofs.Good.{Parties, GoodTables}

-- ---- words of wallets set, but no id

pub record Moved (ws ws' : List ℕ) (nw : ℕ) : Type 0 where
  pub length_same : length ws' ≡ length ws
  pub rows : (v : ℕ) → row_of ws' nw v ≡ row_of ws nw v
  pub ids : (j : ℕ) → word ws' WALLET_LEN j ID ≡ word ws WALLET_LEN j ID
  pub frozen : (j : ℕ) → word ws WALLET_LEN j FROZEN ≤ IS_CLOSED → word ws' WALLET_LEN j FROZEN ≤ IS_CLOSED

pub moved_then : {ws ws' ws'' : List ℕ} {nw : ℕ} → Moved ws ws' nw → Moved ws' ws'' nw → Moved ws ws'' nw
moved_then a b = record {
  length_same = b.length_same ∙ a.length_same;
  rows = λ v. b.rows v ∙ a.rows v;
  ids = λ j. b.ids j ∙ a.ids j;
  frozen = λ j x. b.frozen j (a.frozen j x);
}

-- one word; if it is the frozen word, it is set to 0 or 1
pub moved_put : (ws : List ℕ) (nw i c x : ℕ) → c < WALLET_LEN → ID ≢ c → (FROZEN ≡ c → x ≤ IS_CLOSED) → Moved ws (put ws WALLET_LEN i c x) nw
moved_put ws nw i c x c< n0 flag = record {
  length_same = length_put ws WALLET_LEN i c x;
  rows = row_put ws nw i c x c< n0;
  ids = λ j. word_col ws WALLET_LEN i c x j ID c< (lit< tt) n0;
  frozen = λ j old. go j old (ℕ_discrete FROZEN c);
}
  where
    go : (j : ℕ) → word ws WALLET_LEN j FROZEN ≤ IS_CLOSED → Dec (FROZEN ≡ c) → word (put ws WALLET_LEN i c x) WALLET_LEN j FROZEN ≤ IS_CLOSED
    go j old (no e) = subst (λ (y : ℕ). y ≤ IS_CLOSED) (sym (word_col ws WALLET_LEN i c x j FROZEN c< (lit< tt) e)) old
    go j old (yes e) =
        subst (λ (k : ℕ). word (put ws WALLET_LEN i c x) WALLET_LEN j k ≤ IS_CLOSED) (sym e)
        (put_prop (λ (y : ℕ). y ≤ IS_CLOSED) ws WALLET_LEN i c x j c< (subst (λ (k : ℕ). word ws WALLET_LEN j k ≤ IS_CLOSED) e old) (flag e))

module _ {ws ws' : List ℕ} {nw : ℕ} (m : Moved ws ws' nw) where
  moved_row : (v : ℕ) → row_of ws nw v < nw → row_of ws' nw v < nw
  moved_row v l = subst (λ (r : ℕ). r < nw) (sym (m.rows v)) l

  moved_distinct : Distinct ws nw → Distinct ws' nw
  moved_distinct d i l = m.rows (word ws' WALLET_LEN i ID) ∙ ap (row_of ws nw) (m.ids i) ∙ d i l

  moved_wallet : (j : ℕ) → WRow ws j → WRow ws' j
  moved_wallet j r = record { id = subst (λ (x : ℕ). 0 < x) (sym (m.ids j)) r.id; frozen = m.frozen j r.frozen }

-- the wallets may change as long as nobody's locked does and all credits are the granted total
pub moved_tables : (ws : List ℕ) (nw g : ℕ) (es : List ℕ) (len ne : ℕ) (rs : List ℕ) (nr : ℕ) (ws' : List ℕ) (g' : ℕ)
    → GoodTables ws nw g es len ne rs nr → Moved ws ws' nw → ((v : ℕ) → bal ws' nw v LOCKED ≡ bal ws nw v LOCKED)
    → total ws' nw ≡ g' → g' ≤ MAX_GRANTED_MICRO → GoodTables ws' nw g' es len ne rs nr
moved_tables ws nw g es len ne rs nr ws' g' good m locked totals most = record {
  wide = good.wide;
  wallets_in = subst (λ (k : ℕ). nw ≤ k / WALLET_LEN) (sym m.length_same) good.wallets_in;
  escrows_in = good.escrows_in;
  receipts_in = good.receipts_in;
  distinct = moved_distinct m good.distinct;
  totals = totals;
  most = most;
  from_row = λ i h. moved_row m _ (good.from_row i h);
  to_row = λ i h. moved_row m _ (good.to_row i h);
  locked = λ v. locked v ∙ good.locked v;
  links = good.links;
  linked = good.linked;
  wallet_rows = λ i h. moved_wallet m i (good.wallet_rows i h);
  escrow_rows = good.escrow_rows;
  receipt_rows = good.receipt_rows;
}

-- ---- a new row, and the old ones

-- what holds of row n, and of the rows before it, holds of every row below n + 1
pub new_or_old : (Q : ℕ → Type 0) (n j : ℕ) → j < n + 1 → Q n → (j < n → Q j) → Q j
new_or_old Q n j h new old = go (ℕ_discrete j n)
  where
    go : Dec (j ≡ n) → Q j
    go (yes e) = subst Q (sym e) new
    go (no e) = old (omega (arith, h, e))

-- credits of s are locked for a new escrow to t
module _ (ws : List ℕ) (nw g : ℕ) (es : List ℕ) (len ne : ℕ) (rs : List ℕ) (nr : ℕ) (good : GoodTables ws nw g es len ne rs nr)
    (s t a until now : ℕ) (place : ne < rows_in len es) (s_row : row_of ws nw s < nw) (t_row : row_of ws nw t < nw) (differ : s ≢ t) (low : 1 ≤ a)
    (high : a ≤ MAX_AMOUNT_MICRO) (enough : a ≤ bal ws nw s BALANCE) (until_right : until ≤ LAST_TIME_MS) (now_right : now ≤ LAST_TIME_MS) where
  vs : List ℕ
  vs = s ∷ t ∷ a ∷ until ∷ IS_OPEN ∷ now ∷ 0 ∷ 0 ∷ []

  es' : List ℕ
  es' = put_row es len ne vs

  ws' : List ℕ
  ws' = mv ws nw BALANCE s LOCKED s a

  new : (c : ℕ) → c < 8 → word es' len ne c ≡ get_or vs c 0
  unfolding es' vs
  new c h = word_new es len ne c vs (omega (arith, room len ne es place, good.wide)) h

  old : (j c : ℕ) → j < ne → c < 8 → word es' len j c ≡ word es len j c
  unfolding es'
  old j c h hc = word_old es len ne j c vs h (omega (arith, good.wide))

  moved : Moved ws ws' nw
  unfolding ws'
  moved = moved_then (moved_put ws nw (row_of ws nw s) BALANCE _ (lit< tt) (omega arith) (λ e. absurd (omega arith)))
      (moved_put _ nw _ LOCKED _ (lit< tt) (omega arith) (λ e. absurd (omega arith)))

  -- it is the sender's, and so are the credits that are locked
  held : (v : ℕ) → bal ws' nw v LOCKED ≡ sum (ne + 1) (held_at es' len v)
  unfolding ws' vs
  held v =
      let x = mv_bal ws nw BALANCE s LOCKED s a (lit≤ tt) (lit≤ tt) (lit≤ tt) (lit≤ tt) (rows_fit WALLET_LEN nw ws good.wallets_in) s_row s_row enough LOCKED v (lit< tt) in
      let y : sum ne (held_at es' len v) ≡ sum ne (held_at es len v) =
      sum_ext ne _ _ (λ j k. ap₂ (λ (b : Bool) (m : ℕ). cond b m 0)
      (ap₂ (λ (p q : ℕ). eqb p v && eqb q IS_OPEN) (old j FROM k (lit< tt)) (old j ESCROW_STATE k (lit< tt))) (old j ESCROW_AMOUNT k (lit< tt))) in
      let z : held_at es' len v ne ≡ cond (eqb v s) a 0 =
      ap₂ (λ (b : Bool) (m : ℕ). cond b m 0)
      (ap₂ (λ (p q : ℕ). eqb p v && eqb q IS_OPEN) (new FROM (lit< tt)) (new ESCROW_STATE (lit< tt)) ∙ and_true (eqb s v) ∙ eqb_sym s v) (new ESCROW_AMOUNT (lit< tt)) in
      omega (arith, x, y, z, sum_step ne (held_at es' len v), good.locked v)

  party : (c x j : ℕ) → j < ne + 1 → c < 8 → word es' len ne c ≡ x → row_of ws nw x < nw → (j < ne → row_of ws nw (word es len j c) < nw)
      → row_of ws' nw (word es' len j c) < nw
  party c x j h hc e xr before =
      moved_row moved (word es' len j c)
      (new_or_old (λ (k : ℕ). row_of ws nw (word es' len k c) < nw) ne j h (subst (λ (y : ℕ). row_of ws nw y < nw) (sym e) xr)
      (λ l. subst (λ (y : ℕ). row_of ws nw y < nw) (sym (old j c l hc)) (before l)))

  e_new : ERow es' len ne
  unfolding vs
  e_new = record {
    parties = subst₂ (λ (x y : ℕ). x ≢ y) (sym (new FROM (lit< tt))) (sym (new TO (lit< tt))) differ;
    low = subst (λ (x : ℕ). 1 ≤ x) (sym (new ESCROW_AMOUNT (lit< tt))) low;
    high = subst (λ (x : ℕ). x ≤ MAX_AMOUNT_MICRO) (sym (new ESCROW_AMOUNT (lit< tt))) high;
    until = subst (λ (x : ℕ). x ≤ LAST_TIME_MS) (sym (new ESCROW_DEADLINE (lit< tt))) until_right;
    opened = subst (λ (x : ℕ). x ≤ LAST_TIME_MS) (sym (new OPENED_AT (lit< tt))) now_right;
    closed = subst (λ (x : ℕ). x ≤ LAST_TIME_MS) (sym (new ESCROW_CLOSED_AT (lit< tt))) (lit≤ tt);
    state = subst State (sym (new ESCROW_STATE (lit< tt))) (lit≤ tt, lit≤ tt);
  }

  e_old : (j : ℕ) → j < ne → ERow es' len j
  e_old j l =
      let r = good.escrow_rows j l in
      record {
        parties = subst₂ (λ (x y : ℕ). x ≢ y) (sym (old j FROM l (lit< tt))) (sym (old j TO l (lit< tt))) r.parties;
        low = subst (λ (x : ℕ). 1 ≤ x) (sym (old j ESCROW_AMOUNT l (lit< tt))) r.low;
        high = subst (λ (x : ℕ). x ≤ MAX_AMOUNT_MICRO) (sym (old j ESCROW_AMOUNT l (lit< tt))) r.high;
        until = subst (λ (x : ℕ). x ≤ LAST_TIME_MS) (sym (old j ESCROW_DEADLINE l (lit< tt))) r.until;
        opened = subst (λ (x : ℕ). x ≤ LAST_TIME_MS) (sym (old j OPENED_AT l (lit< tt))) r.opened;
        closed = subst (λ (x : ℕ). x ≤ LAST_TIME_MS) (sym (old j ESCROW_CLOSED_AT l (lit< tt))) r.closed;
        state = subst State (sym (old j ESCROW_STATE l (lit< tt))) r.state;
      }

  pub open_tables :
      GoodTables (mv ws nw BALANCE s LOCKED s a) nw g (put_row es len ne (s ∷ t ∷ a ∷ until ∷ IS_OPEN ∷ now ∷ 0 ∷ 0 ∷ [])) len (ne + 1) rs nr
  unfolding vs es' ws'
  open_tables = record {
    wide = good.wide;
    wallets_in = subst (λ (k : ℕ). nw ≤ k / WALLET_LEN) (sym moved.length_same) good.wallets_in;
    escrows_in = subst (λ (k : ℕ). ne + 1 ≤ k / len) (sym (length_put_row es len ne vs)) (omega (arith, place));
    receipts_in = good.receipts_in;
    distinct = moved_distinct moved good.distinct;
    totals =
        mv_total ws nw BALANCE s LOCKED s a (lit≤ tt) (lit≤ tt) (lit≤ tt) (lit≤ tt) (rows_fit WALLET_LEN nw ws good.wallets_in) s_row s_row enough
        ∙ good.totals;
    most = good.most;
    from_row = λ j h. party FROM s j h (lit< tt) (new FROM (lit< tt)) s_row (good.from_row j);
    to_row = λ j h. party TO t j h (lit< tt) (new TO (lit< tt)) t_row (good.to_row j);
    locked = held;
    links = λ j h. omega (arith, good.links j h);
    linked = λ j h some_link.
        let p = good.linked j h some_link in
        let l : word rs RECEIPT_LEN j RECEIPT_LINK - 1 < ne = omega (arith, good.links j h, some_link) in
        record { from = old _ FROM l (lit< tt) ∙ p.from; to = old _ TO l (lit< tt) ∙ p.to };
    wallet_rows = λ j h. moved_wallet moved j (good.wallet_rows j h);
    escrow_rows = λ j h. new_or_old (ERow es' len) ne j h e_new (e_old j);
    receipt_rows = good.receipt_rows;
  }

-- a new receipt
module _ (ws : List ℕ) (nw g : ℕ) (es : List ℕ) (len ne : ℕ) (rs : List ℕ) (nr : ℕ) (good : GoodTables ws nw g es len ne rs nr) (vs : List ℕ)
    (whole : length vs ≡ RECEIPT_LEN) (place : nr < rows_in RECEIPT_LEN rs) where
  rs' : List ℕ
  rs' = put_row rs RECEIPT_LEN nr vs

  r_new : (c : ℕ) → c < RECEIPT_LEN → word rs' RECEIPT_LEN nr c ≡ get_or vs c 0
  unfolding rs'
  r_new c h = word_new rs RECEIPT_LEN nr c vs (omega (arith, room RECEIPT_LEN nr rs place)) (omega arith)

  r_old : (j c : ℕ) → j < nr → c < RECEIPT_LEN → word rs' RECEIPT_LEN j c ≡ word rs RECEIPT_LEN j c
  unfolding rs'
  r_old j c h hc = word_old rs RECEIPT_LEN nr j c vs h hc

  old_row : (j : ℕ) → j < nr → RRow rs' j
  old_row j l =
      let r = good.receipt_rows j l in
      record {
        until = subst (λ (x : ℕ). x ≤ LAST_TIME_MS) (sym (r_old j ACCEPTANCE_DEADLINE l (lit< tt))) r.until;
        claimed = subst (λ (x : ℕ). x ≤ LAST_TIME_MS) (sym (r_old j CLAIMED_AT l (lit< tt))) r.claimed;
        closed = subst (λ (x : ℕ). x ≤ LAST_TIME_MS) (sym (r_old j RECEIPT_CLOSED_AT l (lit< tt))) r.closed;
        auto = subst (λ (x : ℕ). x ≤ 1) (sym (r_old j AUTO_ACCEPT l (lit< tt))) r.auto;
        state = subst State (sym (r_old j RECEIPT_STATE l (lit< tt))) r.state;
      }

  -- the parties of the escrow at a link, read from a row that has that link, requester and provider
  parties_of : (j k p q : ℕ) → word rs' RECEIPT_LEN j RECEIPT_LINK ≡ k → word rs' RECEIPT_LEN j REQUESTER ≡ p → word rs' RECEIPT_LEN j PROVIDER ≡ q
      → word es len (k - 1) FROM ≡ p → word es len (k - 1) TO ≡ q → Parties es len rs' j
  parties_of j k p q e x y a b = record {
    from = ap (λ (n : ℕ). word es len (n - 1) FROM) e ∙ a ∙ sym x;
    to = ap (λ (n : ℕ). word es len (n - 1) TO) e ∙ b ∙ sym y;
  }

  pub claim_tables : get_or vs ACCEPTANCE_DEADLINE 0 ≤ LAST_TIME_MS → get_or vs CLAIMED_AT 0 ≤ LAST_TIME_MS → get_or vs RECEIPT_CLOSED_AT 0 ≤ LAST_TIME_MS
      → get_or vs AUTO_ACCEPT 0 ≤ 1 → State (get_or vs RECEIPT_STATE 0) → get_or vs RECEIPT_LINK 0 ≤ ne
      → (get_or vs RECEIPT_LINK 0 ≢ 0 → word es len (get_or vs RECEIPT_LINK 0 - 1) FROM ≡ get_or vs REQUESTER 0)
      → (get_or vs RECEIPT_LINK 0 ≢ 0 → word es len (get_or vs RECEIPT_LINK 0 - 1) TO ≡ get_or vs PROVIDER 0)
      → GoodTables ws nw g es len ne (put_row rs RECEIPT_LEN nr vs) (nr + 1)
  unfolding rs'
  claim_tables until claimed closed auto state link from to = record {
    wide = good.wide;
    wallets_in = good.wallets_in;
    escrows_in = good.escrows_in;
    receipts_in = subst (λ (k : ℕ). nr + 1 ≤ k / RECEIPT_LEN) (sym (length_put_row rs RECEIPT_LEN nr vs)) (omega (arith, place));
    distinct = good.distinct;
    totals = good.totals;
    most = good.most;
    from_row = good.from_row;
    to_row = good.to_row;
    locked = good.locked;
    links = λ j h. new_or_old (λ (k : ℕ). word rs' RECEIPT_LEN k RECEIPT_LINK ≤ ne) nr j h (subst (λ (x : ℕ). x ≤ ne) (sym (r_new RECEIPT_LINK (lit< tt))) link)
        (λ l. subst (λ (x : ℕ). x ≤ ne) (sym (r_old j RECEIPT_LINK l (lit< tt))) (good.links j l));
    linked = λ j h. new_or_old (λ (k : ℕ). word rs' RECEIPT_LEN k RECEIPT_LINK ≢ 0 → Parties es len rs' k) nr j h
        (λ some_link.
        let e = r_new RECEIPT_LINK (lit< tt) in
        parties_of nr _ _ _ e (r_new REQUESTER (lit< tt)) (r_new PROVIDER (lit< tt)) (from (λ x. some_link (e ∙ x))) (to (λ x. some_link (e ∙ x))))
        (λ l some_link.
        let e = r_old j RECEIPT_LINK l (lit< tt) in
        let p = good.linked j l (λ x. some_link (e ∙ x)) in
        parties_of j _ _ _ e (r_old j REQUESTER l (lit< tt)) (r_old j PROVIDER l (lit< tt)) p.from p.to);
    wallet_rows = good.wallet_rows;
    escrow_rows = good.escrow_rows;
    receipt_rows = λ j h. new_or_old (RRow rs') nr j h (record {
      until = subst (λ (x : ℕ). x ≤ LAST_TIME_MS) (sym (r_new ACCEPTANCE_DEADLINE (lit< tt))) until;
      claimed = subst (λ (x : ℕ). x ≤ LAST_TIME_MS) (sym (r_new CLAIMED_AT (lit< tt))) claimed;
      closed = subst (λ (x : ℕ). x ≤ LAST_TIME_MS) (sym (r_new RECEIPT_CLOSED_AT (lit< tt))) closed;
      auto = subst (λ (x : ℕ). x ≤ 1) (sym (r_new AUTO_ACCEPT (lit< tt))) auto;
      state = subst State (sym (r_new RECEIPT_STATE (lit< tt))) state;
    }) (old_row j);
  }
