-- Sound taken apart and put together: what wallets, escrows and receipts say (Good), the journal, and the header.
use mathlib.Core.Path.{◌≡◌, refl, sym, ap, ◌∙◌}
use mathlib.Core.List.{[], ◌∷◌}
use mathlib.Core.Bool.{Bool, true, false, not, ◌||◌}
use Prim.Native.Nat.{ℕ, ◌-◌, ◌≤◌, ◌<◌}
use native.Mathlib.Omega.{arith}
use lib.Dec.{eqb}
use borrow.Author.Tests.{eqb-false, eq-eqb, ne_eqb, lt-ltb, le-leb}
use Rattle.rules.specs.Limits.{JOURNAL_LEN, LAST_TIME_MS, MAX_AMOUNT_MICRO, MAX_GRANTED_MICRO}
use Rattle.rules.specs.Limits.{EDITION, SYSTEM_FROZEN, CLOCK, GRANTED, ID, LOCKED, FROZEN, IS_CLOSED}
use Rattle.rules.specs.Limits.{FROM, TO, ESCROW_AMOUNT, ESCROW_DEADLINE, ESCROW_STATE, OPENED_AT, ESCROW_CLOSED_AT}
use Rattle.rules.specs.Limits.{PROVIDER, REQUESTER, RECEIPT_LINK, ACCEPTANCE_DEADLINE, AUTO_ACCEPT, RECEIPT_STATE, CLAIMED_AT, RECEIPT_CLOSED_AT}
use Rattle.rules.specs.Table.{rows_in, all, sum}
use Rattle.rules.specs.Ledger.{Ledger, head, wallet, escrow, receipt, wallet_count, escrow_count, receipt_count, entry_count, written}
use Rattle.rules.specs.Sound.{header_tests, wallet_tests, escrow_tests, link_right, receipt_tests, entry_tests, held_in, credits, sound}
use Rattle.rules.proofs.Bools.{and_intro}
use Rattle.rules.proofs.Counts.{every_intro}
use Rattle.rules.proofs.Tests.{sound_says}
use Rattle.rules.proofs.Accounts.{distinct_test, own}
use Rattle.rules.proofs.Good.{Good}

pub record GoodJournal (L : Ledger) : Type 0 where
  pub within : entry_count L ≤ rows_in JOURNAL_LEN L.journal
  pub rows : (i : ℕ) → i < entry_count L → all (entry_tests L i) ≡ true

pub record GoodHeader (L : Ledger) : Type 0 where
  pub edition : head L EDITION ≡ L.edition.number
  pub flag : head L SYSTEM_FROZEN ≤ 1
  pub clock : head L CLOCK ≤ LAST_TIME_MS

module _ (L : Ledger) (h : sound L ≡ true) where
  pub journal_of : GoodJournal L
  journal_of = record { within = (sound_says L h).header.within.journal; rows = (sound_says L h).journal }

  pub header_of : GoodHeader L
  header_of =
      let t = (sound_says L h).header in
      record { edition = t.edition; flag = t.flag; clock = t.clock }

module _ (L : Ledger) (g : Good L) where
  wallet_again : (i : ℕ) → i < wallet_count L → all (wallet_tests L i) ≡ true
  wallet_again i l =
      let r = g.wallet_rows i l in
      and_intro _ _ (ap not (ne_eqb (wallet L i ID) 0 (omega (arith, r.id)))) (le-leb (wallet L i FROZEN) IS_CLOSED r.frozen)

  locked_again : (i : ℕ) → i < wallet_count L → eqb (wallet L i LOCKED) (sum (escrow_count L) (held_in L (wallet L i ID))) ≡ true
  unfolding held_in
  locked_again i l = eq-eqb _ _ (sym (own L.wallets (wallet_count L) i LOCKED g.distinct l) ∙ g.locked (wallet L i ID))

  escrow_again : (i : ℕ) → i < escrow_count L → all (escrow_tests L i) ≡ true
  escrow_again i l =
      let r = g.escrow_rows i l in
      and_intro _ _ (lt-ltb _ _ (g.from_row i l)) (and_intro _ _ (lt-ltb _ _ (g.to_row i l))
      (and_intro _ _ (ap not (ne_eqb (escrow L i FROM) (escrow L i TO) r.parties))
      (and_intro _ _ (and_intro _ _ (le-leb 1 (escrow L i ESCROW_AMOUNT) r.low) (le-leb (escrow L i ESCROW_AMOUNT) MAX_AMOUNT_MICRO r.high))
      (and_intro _ _ (le-leb (escrow L i ESCROW_DEADLINE) LAST_TIME_MS r.until) (and_intro _ _ (le-leb (escrow L i OPENED_AT) LAST_TIME_MS r.opened)
      (and_intro _ _ (le-leb (escrow L i ESCROW_CLOSED_AT) LAST_TIME_MS r.closed)
      (and_intro _ _ (le-leb 1 (escrow L i ESCROW_STATE) r.state.0) (le-leb (escrow L i ESCROW_STATE) 4 r.state.1))))))))

  link_again : (i : ℕ) → i < receipt_count L → link_right L i ≡ true
  link_again i l = go (eqb k 0) refl
    where
      k : ℕ
      k = receipt L i RECEIPT_LINK

      go : (b : Bool) → eqb k 0 ≡ b
          → b || all (written (escrow_count L) k ∷ eqb (escrow L (k - 1) FROM) (receipt L i REQUESTER) ∷ eqb (escrow L (k - 1) TO) (receipt L i PROVIDER) ∷ []) ≡ true
      go true e = refl
      go false e =
          let some_link = eqb-false k 0 e in
          let p = g.linked i l some_link in
          and_intro _ _ (and_intro _ _ (lt-ltb 0 k (omega (arith, some_link))) (le-leb k (escrow_count L) (g.links i l)))
          (and_intro _ _ (eq-eqb (escrow L (k - 1) FROM) (receipt L i REQUESTER) p.from) (eq-eqb (escrow L (k - 1) TO) (receipt L i PROVIDER) p.to))

  receipt_again : (i : ℕ) → i < receipt_count L → all (receipt_tests L i) ≡ true
  receipt_again i l =
      let r = g.receipt_rows i l in
      and_intro _ _ (link_again i l) (and_intro _ _ (le-leb (receipt L i ACCEPTANCE_DEADLINE) LAST_TIME_MS r.until)
      (and_intro _ _ (le-leb (receipt L i CLAIMED_AT) LAST_TIME_MS r.claimed) (and_intro _ _ (le-leb (receipt L i RECEIPT_CLOSED_AT) LAST_TIME_MS r.closed)
      (and_intro _ _ (le-leb (receipt L i AUTO_ACCEPT) 1 r.auto)
      (and_intro _ _ (le-leb 1 (receipt L i RECEIPT_STATE) r.state.0) (le-leb (receipt L i RECEIPT_STATE) 4 r.state.1))))))

  pub sound_of : GoodJournal L → GoodHeader L → sound L ≡ true
  unfolding sound credits
  sound_of j h =
      and_intro _ _ header (and_intro _ _ (every_intro (wallet_count L) _ wallet_again)
      (and_intro _ _ (distinct_test L.wallets (wallet_count L) g.distinct) (and_intro _ _ (every_intro (escrow_count L) _ escrow_again)
      (and_intro _ _ (every_intro (receipt_count L) _ receipt_again) (and_intro _ _ (every_intro (entry_count L) _ j.rows)
      (and_intro _ _ (every_intro (wallet_count L) _ locked_again)
      (and_intro _ _ (eq-eqb _ _ g.totals) (le-leb (head L GRANTED) MAX_GRANTED_MICRO g.most))))))))
    where
      header : all (header_tests L) ≡ true
      header =
          and_intro _ _ (eq-eqb (head L EDITION) L.edition.number h.edition) (and_intro _ _ (le-leb (head L SYSTEM_FROZEN) 1 h.flag)
          (and_intro _ _ (le-leb (head L CLOCK) LAST_TIME_MS h.clock) (and_intro _ _ (le-leb _ _ g.wallets_in)
          (and_intro _ _ (le-leb _ _ g.escrows_in) (and_intro _ _ (le-leb _ _ g.receipts_in) (le-leb _ _ j.within))))))
