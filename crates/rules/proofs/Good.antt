-- What a sound ledger says, as facts about its wallets, escrows and receipts (`Good`), and what follows for the amounts that settling moves:
-- an open escrow's amount is in its sender's locked word, and no balance is larger than all grants together. That the ends of escrows and
-- receipts keep these facts is shown in Stays.
use mathlib.Core.Path.{◌≡◌, refl, sym, ap, ap₂, ◌∙◌, subst}
use mathlib.Core.Logic.{◌≢◌}
use mathlib.Core.List.{List}
use mathlib.Core.Bool.{Bool, true, false, cond, ◌&&◌}
use Prim.Native.Nat.{ℕ, ◌+◌, ◌-◌, ◌≤◌, ◌<◌}
use native.Mathlib.Decide.{dec_lt}
use native.Mathlib.Omega.{arith}
use lib.Dec.{eqb}
use borrow.Author.Tests.{eqb-true, eq-eqb, ne_eqb}
use Rattle.rules.specs.Limits.{WALLET_LEN, RECEIPT_LEN, MAX_AMOUNT_MICRO, MAX_GRANTED_MICRO, GRANTED, BALANCE, LOCKED, IS_OPEN}
use Rattle.rules.specs.Limits.{FROM, TO, ESCROW_AMOUNT, ESCROW_STATE}
use Rattle.rules.specs.Limits.{PROVIDER, REQUESTER, RECEIPT_LINK}
use Rattle.rules.specs.Table.{word, rows_in, sum}
use Rattle.rules.specs.Ledger.{Ledger, head, wallet, escrow, receipt, wallet_count, escrow_count, receipt_count, row_of, wallet_row, wallet_of, written}
use Rattle.rules.specs.Sound.{held_in, credits, sound}
use Rattle.rules.proofs.Bools.{and_fst, and_snd, or_other}
use Rattle.rules.proofs.Counts.{le_sum, sum_zero}
use Rattle.rules.proofs.Tests.{written_high, WRow, ERow, RRow, RightLedger, sound_says}
use Rattle.rules.proofs.Accounts.{bal, total, row_hit, bal_found, bal_missing, Distinct, distinct_says}
use Rattle.rules.proofs.Moves.{held_at}

-- a linked receipt's parties are those of its escrow
pub record Parties (es : List ℕ) (len : ℕ) (rs : List ℕ) (i : ℕ) : Type 0 where
  pub from : word es len (word rs RECEIPT_LEN i RECEIPT_LINK - 1) FROM ≡ word rs RECEIPT_LEN i REQUESTER
  pub to : word es len (word rs RECEIPT_LEN i RECEIPT_LINK - 1) TO ≡ word rs RECEIPT_LEN i PROVIDER

-- ---- three tables with their counts, and the granted total

pub record GoodTables (ws : List ℕ) (nw g : ℕ) (es : List ℕ) (len ne : ℕ) (rs : List ℕ) (nr : ℕ) : Type 0 where
  pub wide : 8 ≤ len
  pub wallets_in : nw ≤ rows_in WALLET_LEN ws
  pub escrows_in : ne ≤ rows_in len es
  pub receipts_in : nr ≤ rows_in RECEIPT_LEN rs
  pub distinct : Distinct ws nw
  pub totals : total ws nw ≡ g
  pub most : g ≤ MAX_GRANTED_MICRO
  pub from_row : (i : ℕ) → i < ne → row_of ws nw (word es len i FROM) < nw
  pub to_row : (i : ℕ) → i < ne → row_of ws nw (word es len i TO) < nw
  pub locked : (v : ℕ) → bal ws nw v LOCKED ≡ sum ne (held_at es len v)
  pub links : (i : ℕ) → i < nr → word rs RECEIPT_LEN i RECEIPT_LINK ≤ ne
  pub linked : (i : ℕ) → i < nr → word rs RECEIPT_LEN i RECEIPT_LINK ≢ 0 → Parties es len rs i
  pub wallet_rows : (i : ℕ) → i < nw → WRow ws i
  pub escrow_rows : (i : ℕ) → i < ne → ERow es len i
  pub receipt_rows : (i : ℕ) → i < nr → RRow rs i

abbrev pub Good : Ledger → Type 0
Good L =
    GoodTables L.wallets (wallet_count L) (head L GRANTED) L.escrows L.edition.escrow (escrow_count L) L.receipts (receipt_count L)

-- ---- what soundness says

module _ (L : Ledger) (wide : 8 ≤ L.edition.escrow) (sound_L : sound L ≡ true) where
  right : RightLedger L
  right = sound_says L sound_L

  -- locked is the sum of the open escrows, of an id without a wallet too: no escrow names it
  locked_says : (v : ℕ) → bal L.wallets (wallet_count L) v LOCKED ≡ sum (escrow_count L) (held_at L.escrows L.edition.escrow v)
  unfolding held_in
  locked_says v = go (dec_lt (wallet_row L v) (wallet_count L))
    where
      go : Dec (wallet_row L v < wallet_count L)
          → bal L.wallets (wallet_count L) v LOCKED ≡ sum (escrow_count L) (held_at L.escrows L.edition.escrow v)
      go (yes l) =
          bal_found L.wallets (wallet_count L) v LOCKED l ∙ right.locked (wallet_row L v) l ∙ ap (λ (u : ℕ). sum (escrow_count L) (held_in L u)) (row_hit L.wallets (wallet_count L) v l)
      go (no l) =
          bal_missing L.wallets (wallet_count L) v LOCKED (omega (arith, l))
          ∙ sym (sum_zero (escrow_count L) (held_at L.escrows L.edition.escrow v)
          (λ i h.
          ap (λ (b : Bool). cond (b && eqb (escrow L i ESCROW_STATE) IS_OPEN) (escrow L i ESCROW_AMOUNT) 0)
          (ne_eqb (escrow L i FROM) v (λ e. l (subst (λ (u : ℕ). wallet_row L u < wallet_count L) e (right.escrows i h).from)))))

  link_says : (i : ℕ) → i < receipt_count L → receipt L i RECEIPT_LINK ≤ escrow_count L
  link_says i l = go (eqb (receipt L i RECEIPT_LINK) 0) refl
    where
      go : (b : Bool) → eqb (receipt L i RECEIPT_LINK) 0 ≡ b → receipt L i RECEIPT_LINK ≤ escrow_count L
      go true e = omega (arith, eqb-true (receipt L i RECEIPT_LINK) 0 e)
      go false e =
          written_high _ _ (and_fst (written (escrow_count L) (receipt L i RECEIPT_LINK)) _
          (or_other (eqb (receipt L i RECEIPT_LINK) 0) _ e (right.receipts i l).link))

  parties_say : (i : ℕ) → i < receipt_count L → receipt L i RECEIPT_LINK ≢ 0 → Parties L.escrows L.edition.escrow L.receipts i
  parties_say i l some_link =
      let k : ℕ = receipt L i RECEIPT_LINK in
      let t = or_other (eqb k 0) _ (ne_eqb k 0 some_link) (right.receipts i l).link in
      let u = and_snd (written (escrow_count L) k) _ t in
      record {
        from = eqb-true _ _ (and_fst (eqb (escrow L (k - 1) FROM) (receipt L i REQUESTER)) _ u);
        to = eqb-true _ _ (and_snd (eqb (escrow L (k - 1) FROM) (receipt L i REQUESTER)) _ u);
      }

  pub good_of : Good L
  unfolding credits
  good_of = record {
    wide = wide;
    wallets_in = right.header.within.wallets;
    escrows_in = right.header.within.escrows;
    receipts_in = right.header.within.receipts;
    distinct = distinct_says L.wallets (wallet_count L) right.apart;
    totals = right.total;
    most = right.most;
    from_row = λ i l. (right.escrows i l).from;
    to_row = λ i l. (right.escrows i l).to;
    locked = locked_says;
    links = link_says;
    linked = parties_say;
    wallet_rows = right.wallets;
    escrow_rows = λ i l. (right.escrows i l).own;
    receipt_rows = λ i l. (right.receipts i l).own;
  }

-- ---- what follows for amounts

module _ (ws : List ℕ) (nw g : ℕ) (es : List ℕ) (len ne : ℕ) (rs : List ℕ) (nr : ℕ) (good : GoodTables ws nw g es len ne rs nr) where
  -- the credits of an open escrow are held of its sender
  pub amount_held : (i : ℕ) → i < ne → eqb (word es len i ESCROW_STATE) IS_OPEN ≡ true
      → word es len i ESCROW_AMOUNT ≤ bal ws nw (word es len i FROM) LOCKED
  amount_held i l open_i =
      let f : ℕ = word es len i FROM in
      let e : held_at es len f i ≡ word es len i ESCROW_AMOUNT =
      ap₂ (λ (a b : Bool). cond (a && b) (word es len i ESCROW_AMOUNT) 0) (eq-eqb f f refl) open_i in
      omega (arith, good.locked f, le_sum ne (held_at es len f) i l)

  pub row_granted : (i : ℕ) → i < nw → word ws WALLET_LEN i BALANCE + word ws WALLET_LEN i LOCKED ≤ g
  row_granted i l = omega (arith, good.totals, le_sum nw (λ j. word ws WALLET_LEN j BALANCE + word ws WALLET_LEN j LOCKED) i l)

-- the same of a ledger
module _ (L : Ledger) (good : Good L) where
  pub from_written : (i : ℕ) → i < escrow_count L → wallet_row L (escrow L i FROM) < wallet_count L
  from_written = good.from_row

  pub to_written : (i : ℕ) → i < escrow_count L → wallet_row L (escrow L i TO) < wallet_count L
  to_written = good.to_row

  pub escrow_held : (i : ℕ) → i < escrow_count L → eqb (escrow L i ESCROW_STATE) IS_OPEN ≡ true
      → escrow L i ESCROW_AMOUNT ≤ wallet_of L (escrow L i FROM) LOCKED
  escrow_held i l o =
      subst (λ (x : ℕ). escrow L i ESCROW_AMOUNT ≤ x) (bal_found L.wallets (wallet_count L) (escrow L i FROM) LOCKED (good.from_row i l))
      (amount_held L.wallets (wallet_count L) (head L GRANTED) L.escrows L.edition.escrow (escrow_count L) L.receipts (receipt_count L) good i l o)

  pub wallet_granted : (i : ℕ) → i < wallet_count L → wallet L i BALANCE + wallet L i LOCKED ≤ head L GRANTED
  wallet_granted =
      row_granted L.wallets (wallet_count L) (head L GRANTED) L.escrows L.edition.escrow (escrow_count L) L.receipts (receipt_count L) good

  pub balance_most : (i : ℕ) → i < wallet_count L → wallet L i BALANCE ≤ MAX_GRANTED_MICRO
  balance_most i l = omega (arith, wallet_granted i l, good.most)

  pub locked_most : (i : ℕ) → i < wallet_count L → wallet L i LOCKED ≤ MAX_GRANTED_MICRO
  locked_most i l = omega (arith, wallet_granted i l, good.most)

  pub amount_most : (i : ℕ) → i < escrow_count L → escrow L i ESCROW_AMOUNT ≤ MAX_AMOUNT_MICRO
  amount_most i l = (good.escrow_rows i l).high
