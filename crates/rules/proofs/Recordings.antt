-- THE PROMISES of request 1 about bytes. A recording that our own core made on fresh tables, and then any bytes, replayed on other fresh tables of
-- those lengths: it comes to the last entry of the recording with the same header and written rows, whatever is asked of the result
-- (`replay_own`). What the bytes behind it are then says what is found: none, an entry cut short, or a changed entry.
use mathlib.Core.Path.{◌≡◌, refl, sym, ap}
use mathlib.Core.Logic.{◌≢◌, ◌⊎◌, inl, inr}
use mathlib.Core.List.{List, [], ◌∷◌, ◌++◌, append-nil}
use mathlib.Core.Bool.{Bool, true, false}
use Prim.Native.Nat.{ℕ, suc, ◌+◌, ◌-◌, ◌%◌}
use native.Mathlib.Omega.{arith}
use lib.ListN.{length}
use lib.Dec.{eqb}
use borrow.Author.Tests.{eq-eqb, ne_eqb}
use Rattle.rules.specs.Limits.{WALLET_LEN, ESCROW_LEN, RECEIPT_LEN, JOURNAL_LEN, ENTRY_BYTES, ALL_AGREE, CUT_SHORT, DISAGREES}
use Rattle.rules.specs.Ledger.{Ledger, Outcome, lengths_right, fresh_header, fresh}
use Rattle.rules.specs.Submit.{submit}
use Rattle.rules.specs.Recording.{Entry, as_entry, entries_from, whole_entries, entries_of, cut_short, recording_of}
use Rattle.rules.specs.Replay.{Gone, through, answer, agrees, compared, ended, replay_on, replay, verdict, recorded_from, ledger_after}
use Rattle.rules.specs.Promises.{SameLengths, started}
use Rattle.rules.specs.Same.{SameRows, SameWritten, SameOutcome}
use Rattle.rules.specs.Agreement.{Finds, own, left_by, TwoSets, OwnRecordingsAgree, CutEntriesAreFound, ChangesAreFound}
use Rattle.rules.specs.declared.Found.{Found}
use Rattle.rules.proofs.Bools.{and_intro, and_none_fst, and_none_snd}
use Rattle.rules.proofs.Rows.{zeros}
use Rattle.rules.proofs.Lengths.{lengths_submit, lengths_started, lengths_right_lem}
use Rattle.rules.proofs.SameSettle.{same_answers}
use Rattle.rules.proofs.Words.{recorded_whole}
use Rattle.rules.proofs.Entries.{recorded_read}

-- ---- entries, from ledgers of the same written rows

-- the same number and word agree; another number, or another word, does not
agreed : (e : Entry) (o : Outcome) → e.number ≡ o.number → e.word ≡ o.word → agrees e o ≡ true
agreed e o n w = rw (n, w) (and_intro _ _ (eq-eqb o.number _ refl) (eq-eqb o.word _ refl))

another : (e : Entry) (o : Outcome) → (e.number ≢ o.number) ⊎ (e.word ≢ o.word) → agrees e o ≡ false
another e o (inl h) = and_none_fst (eqb e.number o.number) _ (ne_eqb e.number o.number h)
another e o (inr h) = and_none_snd (eqb e.number o.number) _ (ne_eqb e.word o.word h)

whole_stays : (L : Ledger) (b : List ℕ) → L.edition.escrow ≡ ESCROW_LEN → (submit L b).left.edition.escrow ≡ ESCROW_LEN
whole_stays L b whole = rw (lengths_submit L b).edition whole

whole_after : (L : Ledger) (bs : List (List ℕ)) → L.edition.escrow ≡ ESCROW_LEN → (ledger_after submit L bs).edition.escrow ≡ ESCROW_LEN
whole_after L [] whole = whole
whole_after L (b ∷ bs) whole = whole_after (submit L b).left bs (whole_stays L b whole)

-- what was recorded from K agrees on L, entry by entry; what follows it is replayed from a ledger of the same written rows
replay_past : (cut : Bool) (bs : List (List ℕ)) (es : List Entry) (n : ℕ) (K L : Ledger) → K.edition.escrow ≡ ESCROW_LEN → SameWritten L K
    → (P : Gone Found → Type 0) → ((M : Ledger) → SameWritten M (ledger_after submit K bs) → P (through submit compared (ended cut) (n + length bs) M es))
    → P (through submit compared (ended cut) n L (recorded_from submit K bs ++ es))
unfolding through compared
replay_past cut [] es n K L whole a P f = let e : n ≡ n + 0 = omega arith in rw e (f L a)
replay_past cut (b ∷ bs) es n K L whole a P f =
    let o : SameOutcome (submit L b) (submit K b) = same_answers L K whole a b in
    rw (agreed (as_entry b (submit K b).number (submit K b).word) (submit L b) (sym o.number) (sym o.word))
    (replay_past cut bs es (n + 1) (submit K b).left (submit L b).left (whole_stays K b whole) o.left P
    (λ M x. let e : n + 1 + length bs ≡ n + suc (length bs) = omega arith in rw e (f M x)))

-- ---- fresh tables

-- no row is written
no_rows : (len : ℕ) (s t : List ℕ) (n : ℕ) → n ≡ 0 → length s ≡ length t → SameRows len n s t
no_rows len s t n e l = record { lengths = l; words = λ p h. absurd (omega (arith, rw e at h)) }

same_fresh : (K L : Ledger) → lengths_right K ≡ true → SameLengths L K → SameWritten (started L) (started K)
unfolding fresh
same_fresh K L right p =
    let m : ℕ = K.edition.header - 1 in
    rw (lengths_right_lem p, right, started)
    (record {
      edition = p.edition;
      header = ap fresh_header p.edition;
      wallets = no_rows WALLET_LEN L.wallets K.wallets _ (zeros m 3) p.wallets;
      escrows = no_rows K.edition.escrow L.escrows K.escrows _ (zeros m 4) p.escrows;
      receipts = no_rows RECEIPT_LEN L.receipts K.receipts _ (zeros m 5) p.receipts;
      journal = no_rows JOURNAL_LEN L.journal K.journal _ (zeros m 6) p.journal;
    })

module _ (K L : Ledger) (bs : List (List ℕ)) (two : TwoSets K L bs) where
  whole_started : (started K).edition.escrow ≡ ESCROW_LEN
  whole_started = rw (lengths_started K two.lent.header).edition two.escrow

  whole_left : (left_by K bs).edition.escrow ≡ ESCROW_LEN
  whole_left = whole_after (started K) bs whole_started

  -- our own recording, and then any bytes
  replay_own : (rest : List ℕ) (P : Gone Found → Type 0)
      → ((M : Ledger) → SameWritten M (left_by K bs) → P (through submit compared (ended (cut_short rest)) (length bs) M (entries_of rest)))
      → P (replay submit L (own K bs ++ rest))
  unfolding replay replay_on
  replay_own rest P f =
      let read = recorded_read (recorded_from submit (started K) bs) (recorded_whole (started K) (omega (arith, whole_started)) bs two.records) rest in
      rw (lengths_right_lem two.lengths, two.lent.lengths, read.0, read.1)
      (replay_past (cut_short rest) bs (entries_of rest) 0 (started K) (started L) whole_started (same_fresh K L two.lent.lengths two.lengths) P
      (λ M a. let e : 0 + length bs ≡ length bs = omega arith in rw e (f M a)))

-- ---- the promises

pub own_recordings_agree : OwnRecordingsAgree
unfolding through ended entries_from
own_recordings_agree K L bs two =
    rw (append-nil (own K bs)) at
    (replay_own K L bs two [] (Finds (verdict 0 ALL_AGREE (length bs) (answer 0 0) (answer 0 0)) (left_by K bs)) (λ M a. record { found = refl; left = a }))

pub cut_entries_are_found : CutEntriesAreFound
unfolding through ended entries_from
cut_entries_are_found K L bs two rest some short =
    replay_own K L bs two rest (Finds (verdict 0 CUT_SHORT (length bs) (answer 0 0) (answer 0 0)) (left_by K bs))
    (λ M a.
    let none : whole_entries rest ≡ 0 = omega arith in
    let cut : eqb (length rest % ENTRY_BYTES) 0 ≡ false = ne_eqb (length rest % ENTRY_BYTES) 0 (omega arith) in
    rw (none, cut) (record { found = refl; left = a }))

pub changes_are_found : ChangesAreFound
unfolding through compared
changes_are_found K L bs two e w rest d =
    let N : Ledger = left_by K bs in
    let p = submit N e.bytes in
    replay_own K L bs two (recording_of (e ∷ []) ++ rest)
    (Finds (verdict 0 DISAGREES (length bs + 1) (answer e.number e.word) (answer p.number p.word)) p.left)
    (λ M a.
    let o : SameOutcome (submit M e.bytes) p = same_answers M N (whole_left K L bs two) a e.bytes in
    rw ((recorded_read (e ∷ []) (w, tt) rest).0, o.number, o.word, another e p d) (record { found = refl; left = o.left }))
