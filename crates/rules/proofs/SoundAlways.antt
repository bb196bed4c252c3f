-- Settling keeps a sound ledger sound, and a ledger started afresh is sound: so answer 2 never comes on a ledger that was changed only through
-- these calls, and the rows written stay within their tables.
use mathlib.Core.Path.{◌≡◌, refl, sym, ap, ◌∙◌, subst, subst₂, subst₃}
use mathlib.Core.Logic.{◌≢◌}
use mathlib.Core.List.{List, [], ◌∷◌}
use mathlib.Core.Bool.{Bool, true, false, not, ◌&&◌, ◌||◌, true≢false, false≢true}
use Prim.Native.Nat.{ℕ, ◌+◌, ◌-◌, ◌/◌, ◌≤◌, ◌<◌}
use native.Mathlib.Omega.{arith}
use lib.ListN.{get_or, set, length, length-set}
use lib.Seq.{get_or-set_same, get_or-set_other}
use lib.Dec.{eqb, lit<, lit≤}
use borrow.Author.Tests.{eqb-true, eqb-false, le-leb}
use Rattle.rules.specs.Limits.{JOURNAL_LEN, LAST_TIME_MS, MAX_AMOUNT_MICRO, GRANT, TRANSFER, OPEN, SWEEP}
use Rattle.rules.specs.Limits.{EDITION, SYSTEM_FROZEN, CLOCK, GRANTED, WALLETS, ESCROWS, RECEIPTS, ENTRIES, LOCKED, OPERATION, ENTRY_AMOUNT, SETTLED_AT}
use Rattle.rules.specs.Table.{word, put_row, rows_in}
use Rattle.rules.specs.Ledger.{Edition, Ledger, Outcome, outcome, head, wallet_count, escrow_count, receipt_count, entry_count}
use Rattle.rules.specs.Ledger.{set_header, put_head, new_entry, lengths_right, fresh_header, fresh}
use Rattle.rules.specs.Record.{read_of}
use Rattle.rules.specs.Sound.{time, between, sound}
use Rattle.rules.specs.Refusals.{refusals_by, refusals, entry_refusals, envelope_refusals, operation_refusals_by, one_of}
use Rattle.rules.specs.Settle.{operate, entry_of, enter, settle_by, settle}
use Rattle.rules.specs.Submit.{answer_by, answer_of}
use Rattle.rules.specs.History.{Call, leaves, after}
use Rattle.rules.specs.Promises.{Lent, started, SoundAlways, SoundSettles, NeverDamaged, RowsStayWithin}
use Rattle.rules.specs.declared.Submission.{Submission}
use Rattle.rules.specs.declared.Read.{Read}
use Rattle.rules.proofs.Bools.{and_intro, cond_case}
use Rattle.rules.proofs.Rows.{room, word_new, word_old, length_put_row, zeros}
use Rattle.rules.proofs.Counts.{sum_none}
use Rattle.rules.proofs.Tests.{header_wide, sound_says}
use Rattle.rules.proofs.Formed.{Formed, formed_says, read_formed}
use Rattle.rules.proofs.Accounts.{bal_missing}
use Rattle.rules.proofs.Good.{GoodTables, Good}
use Rattle.rules.proofs.GoodRows.{new_or_old}
use Rattle.rules.proofs.SoundStays.{good_counts, good_head, good_operate}
use Rattle.rules.proofs.SoundParts.{GoodJournal, GoodHeader, journal_of, header_of, sound_of}
use Rattle.rules.proofs.Refused.{first_holds}
use Rattle.rules.proofs.Calls.{by_left, number_is, settled, settled_signed}
use Rattle.rules.proofs.Passed.{amount_right}
use Rattle.rules.proofs.Keeps.{Keeps, before_entry, keeps_before}
use Rattle.rules.proofs.Lengths.{by_call, lent_call, lent_started}

-- what is tested of a journal row, by its time, its operation and its amount
abbrev entry_right : ℕ → ℕ → ℕ → Bool
entry_right at op amount = time at && (not (eqb op TRANSFER || eqb op OPEN) || between 1 MAX_AMOUNT_MICRO amount)

-- ---- a new journal row

module _ (vs : List ℕ) (M : Ledger) (wide : 8 ≤ length M.header) where
  others : (k : ℕ) → k ≢ ENTRIES → head (new_entry vs M) k ≡ head M k
  unfolding new_entry put_head
  others k ne = get_or-set_other M.header ENTRIES k (entry_count M + 1) 0 ne

  good_entered : Good M → Good (new_entry vs M)
  unfolding new_entry put_head
  good_entered g =
      good_counts (new_entry vs M) (wallet_count M) (head M GRANTED) (escrow_count M) (receipt_count M) (others WALLETS (omega arith)) (others GRANTED (omega arith))
      (others ESCROWS (omega arith)) (others RECEIPTS (omega arith)) g

  header_entered : GoodHeader M → GoodHeader (new_entry vs M)
  unfolding new_entry put_head
  header_entered h = record {
    edition = others EDITION (omega arith) ∙ h.edition;
    flag = subst (λ (x : ℕ). x ≤ 1) (sym (others SYSTEM_FROZEN (omega arith))) h.flag;
    clock = subst (λ (x : ℕ). x ≤ LAST_TIME_MS) (sym (others CLOCK (omega arith))) h.clock;
  }

  journal_entered : GoodJournal M → length vs ≡ JOURNAL_LEN → entry_count M < rows_in JOURNAL_LEN M.journal
      → entry_right (get_or vs SETTLED_AT 0) (get_or vs OPERATION 0) (get_or vs ENTRY_AMOUNT 0) ≡ true → GoodJournal (new_entry vs M)
  unfolding new_entry put_head
  journal_entered j whole place right = record {
    within = subst₂ (λ (x y : ℕ). x ≤ y / JOURNAL_LEN) (sym count) (sym (length_put_row M.journal JOURNAL_LEN (entry_count M) vs)) (omega (arith, place));
    rows = λ i l. new_or_old Right (entry_count M) i (subst (λ (n : ℕ). i < n) count l)
        (subst₃ (λ (x y z : ℕ). entry_right x y z ≡ true) (sym (new SETTLED_AT (lit< tt))) (sym (new OPERATION (lit< tt))) (sym (new ENTRY_AMOUNT (lit< tt))) right)
        (λ k. subst₃ (λ (x y z : ℕ). entry_right x y z ≡ true) (sym (old i SETTLED_AT k (lit< tt))) (sym (old i OPERATION k (lit< tt))) (sym (old i ENTRY_AMOUNT k (lit< tt))) (j.rows i k));
  }
    where
      t : List ℕ
      t = put_row M.journal JOURNAL_LEN (entry_count M) vs

      Right : ℕ → Type 0
      Right i = entry_right (word t JOURNAL_LEN i SETTLED_AT) (word t JOURNAL_LEN i OPERATION) (word t JOURNAL_LEN i ENTRY_AMOUNT) ≡ true

      count : get_or (set M.header ENTRIES (entry_count M + 1)) ENTRIES 0 ≡ entry_count M + 1
      count = get_or-set_same M.header ENTRIES (entry_count M + 1) 0 (omega (arith, wide))

      new : (c : ℕ) → c < JOURNAL_LEN → word t JOURNAL_LEN (entry_count M) c ≡ get_or vs c 0
      new c h = word_new M.journal JOURNAL_LEN (entry_count M) c vs (omega (arith, room JOURNAL_LEN (entry_count M) M.journal place, whole)) (omega (arith, whole, h))

      old : (i c : ℕ) → i < entry_count M → c < JOURNAL_LEN → word t JOURNAL_LEN i c ≡ word M.journal JOURNAL_LEN i c
      old i c h hc = word_old M.journal JOURNAL_LEN (entry_count M) i c vs h hc

-- ---- settling

module _ (L : Ledger) (r : Read) (z : answer_of L r ≡ 0) (form : Formed r.submission) (lent : Lent L) where
  abbrev s : Submission
  s = r.submission

  M : Ledger
  M = before_entry s L

  kept : Keeps L M
  unfolding M
  kept = keeps_before s L

  head_wide : 8 ≤ length L.header
  head_wide = header_wide L lent.lengths lent.header

  wide_M : 8 ≤ length M.header
  wide_M = omega (arith, kept.lengths.header, head_wide)

  good_M : Good M
  unfolding M
  good_M = good_head CLOCK s.now (operate s L).after (omega arith) (omega arith) (omega arith) (omega arith) (good_operate L r z form lent.escrow head_wide)

  header_M : GoodHeader M
  unfolding M put_head
  header_M =
      let h = header_of L (settled L r z).is_sound in
      record {
        edition = kept.number ∙ h.edition ∙ ap (λ (e : Edition). e.number) (sym kept.lengths.edition);
        flag = kept.flag h.flag;
        clock = subst (λ (x : ℕ). x ≤ LAST_TIME_MS)
            (sym (get_or-set_same (operate s L).after.header CLOCK s.now 0 (omega (arith, wide_M, length-set (operate s L).after.header CLOCK s.now)))) form.now_right;
      }

  journal_M : GoodJournal M
  journal_M =
      let j = journal_of L (settled L r z).is_sound in
      record {
        within = subst₂ (λ (n : ℕ) (t : List ℕ). n ≤ rows_in JOURNAL_LEN t) (sym kept.count) (sym kept.rows) j.within;
        rows = λ i l. subst (λ (t : List ℕ). entry_right (word t JOURNAL_LEN i SETTLED_AT) (word t JOURNAL_LEN i OPERATION) (word t JOURNAL_LEN i ENTRY_AMOUNT) ≡ true)
            (sym kept.rows) (j.rows i (subst (λ (n : ℕ). i < n) kept.count l));
      }

  amount_entered : eqb s.op TRANSFER || eqb s.op OPEN ≡ true → between 1 MAX_AMOUNT_MICRO s.amount ≡ true
  amount_entered h = go (eqb s.op TRANSFER) refl
    where
      go : (b : Bool) → eqb s.op TRANSFER ≡ b → between 1 MAX_AMOUNT_MICRO s.amount ≡ true
      go true e = amount_right L r z (ap (one_of (GRANT ∷ TRANSFER ∷ OPEN ∷ [])) (eqb-true s.op TRANSFER e))
      go false e = amount_right L r z (ap (one_of (GRANT ∷ TRANSFER ∷ OPEN ∷ [])) (eqb-true s.op OPEN (subst (λ (b : Bool). b || eqb s.op OPEN ≡ true) e h)))

  row_right : entry_right s.now s.op s.amount ≡ true
  row_right = and_intro _ _ (le-leb s.now LAST_TIME_MS form.now_right) (go (eqb s.op TRANSFER || eqb s.op OPEN) refl)
    where
      go : (b : Bool) → eqb s.op TRANSFER || eqb s.op OPEN ≡ b → not b || between 1 MAX_AMOUNT_MICRO s.amount ≡ true
      go true e = amount_entered e
      go false e = refl

  sound_settled : sound (settle s L).after ≡ true
  unfolding settle_by enter M
  sound_settled =
      cond_case (λ (K : Ledger). sound K ≡ true) (eqb s.op SWEEP) M (new_entry (entry_of s (operate s L).word) M)
      (λ e. sound_of M good_M journal_M header_M)
      (λ e. sound_of _ (good_entered _ M wide_M good_M)
      (journal_entered _ M wide_M journal_M refl
      (subst₂ (λ (n : ℕ) (t : List ℕ). n < rows_in JOURNAL_LEN t) (sym kept.count) (sym kept.rows)
      (settled_signed L r z form (eqb-false s.op SWEEP e)).place) row_right)
      (header_entered _ M wide_M header_M))

pub sound_settles : SoundSettles
sound_settles L lent h b =
    by_left (λ (K : Ledger). sound K ≡ true) L b
    (λ e. sound_settled L (read_of b) e (formed_says (read_of b).submission (read_formed b (settled L (read_of b) e).formed)) lent) (λ e. h)

-- ---- from a fresh ledger

sound_started : (L : Ledger) → Lent L → sound (started L) ≡ true
unfolding fresh
sound_started L lent =
    cond_case (λ (o : Outcome). sound o.left ≡ true) (lengths_right L) (outcome 0 0 N) (outcome 1 0 L)
    (λ e. sound_of N (good_counts N 0 0 0 0 (zeros m 3) (zeros m 2) (zeros m 4) (zeros m 5) empty)
    (record {
      within = subst (λ (n : ℕ). n ≤ rows_in JOURNAL_LEN L.journal) (sym (zeros m 6)) (omega arith);
      rows = λ i l. absurd (none i (subst (λ (n : ℕ). i < n) (zeros m 6) l));
    })
    (record {
      edition = refl;
      flag = subst (λ (x : ℕ). x ≤ 1) (sym (zeros m 0)) (lit≤ tt);
      clock = subst (λ (x : ℕ). x ≤ LAST_TIME_MS) (sym (zeros m 1)) (lit≤ tt);
    }))
    (λ e. absurd (true≢false (sym lent.lengths ∙ e)))
  where
    N : Ledger
    N = set_header (fresh_header L.edition) L

    m : ℕ
    m = L.edition.header - 1

    none : (i : ℕ) → i < 0 → ⊥
    none i l = omega arith

    empty : GoodTables L.wallets 0 0 L.escrows L.edition.escrow 0 L.receipts 0
    empty = record {
      wide = lent.escrow;
      wallets_in = omega arith;
      escrows_in = omega arith;
      receipts_in = omega arith;
      distinct = λ i l. absurd (none i l);
      totals = sum_none _;
      most = lit≤ tt;
      from_row = λ i l. absurd (none i l);
      to_row = λ i l. absurd (none i l);
      locked = λ v. bal_missing L.wallets 0 v LOCKED (omega arith) ∙ sym (sum_none _);
      links = λ i l. absurd (none i l);
      linked = λ i l x. absurd (none i l);
      wallet_rows = λ i l. absurd (none i l);
      escrow_rows = λ i l. absurd (none i l);
      receipt_rows = λ i l. absurd (none i l);
    }

-- a sound ledger stays sound through any calls
sound_after : (L : Ledger) → Lent L → sound L ≡ true → (calls : List Call) → sound (after L calls) ≡ true
sound_after L lent h [] = h
sound_after L lent h (c ∷ cs) =
    sound_after (leaves L c) (lent_call L lent c) (by_call (λ (K : Ledger). sound K ≡ true) L h (sound_settles L lent h) c (λ e. sound_started L lent)) cs

pub sound_always : SoundAlways
sound_always L lent calls = sound_after (started L) (lent_started L lent) (sound_started L lent) calls

pub never_damaged : NeverDamaged
unfolding answer_by refusals_by entry_refusals envelope_refusals operation_refusals_by
never_damaged L lent calls b e =
    let N : Ledger = after (started L) calls in
    let h : not (sound N) || false ≡ true = first_holds (refusals N (read_of b)) 2 (omega arith) (sym (number_is N b) ∙ e) in
    false≢true (subst (λ (x : Bool). not x || false ≡ true) (sound_always L lent calls) h)

pub rows_stay_within : RowsStayWithin
rows_stay_within L lent calls = (sound_says (after (started L) calls) (sound_always L lent calls)).header.within
