-- WHAT THE DAILY CAP COUNTS. A row is of one operation, so the sum over the rows of both is one sum and the other. And no operation touches the
-- journal: when a submission has settled, the rows before its own count as they did, and its own as its record says.
use mathlib.Core.Path.{◌≡◌, refl, sym, ap, ap₂, ◌∙◌}
use mathlib.Core.Logic.{◌≢◌}
use mathlib.Core.List.{List, [], ◌∷◌}
use mathlib.Core.Bool.{Bool, true, false, cond, ◌&&◌, ◌||◌}
use Prim.Native.Nat.{ℕ, ◌+◌, ◌*◌, ◌≤◌, ◌<◌}
use native.Mathlib.Omega.{arith}
use lib.ListN.{get_or, length}
use lib.Dec.{eqb, leb, lit<}
use borrow.Author.Tests.{eqb-true, eqb-false}
use Rattle.rules.specs.Limits.{JOURNAL_LEN, DAY_MS, ENTRIES, SIGNER, OPERATION, ENTRY_AMOUNT, SETTLED_AT, TRANSFER, OPEN, SWEEP}
use Rattle.rules.specs.Table.{word, put_row, all, rows_in}
use Rattle.rules.specs.Ledger.{Ledger, entry, entry_count, put_head, new_entry}
use Rattle.rules.specs.Record.{read_of}
use Rattle.rules.specs.Refusals.{one_of, paying, counts, counted_of, counted}
use Rattle.rules.specs.Settle.{enter, settle_by, settle}
use Rattle.rules.specs.Cap.{CountsOpens, taken, RoomIsTaken}
use Rattle.rules.specs.declared.Submission.{Submission}
use Rattle.rules.proofs.Bools.{and_none_fst, and_none_snd, cond_case}
use Rattle.rules.proofs.Rows.{room, word_new, word_old}
use Rattle.rules.proofs.Counts.{sum_ext, sum_both, sum_step}
use Rattle.rules.proofs.Tests.{header_wide}
use Rattle.rules.proofs.Formed.{formed_says, read_formed}
use Rattle.rules.proofs.Calls.{by_left, number_is, settled, settled_signed}
use Rattle.rules.proofs.Keeps.{Keeps, before_entry, keeps_before}
use Rattle.rules.proofs.ReplayGuard.{new_count}

-- ---- both operations

-- of two tests at most one holds
one_of_two : (a t o c : Bool) (x : ℕ) → (t ≡ true → o ≡ false)
    → cond (a && ((t || (o || false)) && c)) x 0 ≡ cond (a && (t && c)) x 0 + cond (a && (o && c)) x 0
one_of_two false t o c x n = refl
one_of_two true true o c x n = rw (n refl) (omega arith)
one_of_two true false true c x n = omega arith
one_of_two true false false c x n = refl

transfer_no_open : (op : ℕ) → eqb op TRANSFER ≡ true → eqb op OPEN ≡ false
transfer_no_open op e = ap (λ (k : ℕ). eqb k OPEN) (eqb-true op TRANSFER e)

pub counts_opens : CountsOpens
unfolding counted counted_of
counts_opens L signer now =
    sum_both (entry_count L) _ _ _
    (λ i l. one_of_two (eqb (entry L i SIGNER) signer) (eqb (entry L i OPERATION) TRANSFER) (eqb (entry L i OPERATION) OPEN)
    (leb now (entry L i SETTLED_AT + DAY_MS)) (entry L i ENTRY_AMOUNT)
    (transfer_no_open (entry L i OPERATION)))

-- ---- a journal row more

counted_kept : {L K : Ledger} → Keeps L K → (signer now : ℕ) → counted K signer now ≡ counted L signer now
unfolding counted
counted_kept k signer now = ap₂ (λ (n : ℕ) (j : List ℕ). counted_of j n signer now) k.count k.rows

-- what row i adds, and what a row of these words does
abbrev part : List ℕ → ℕ → ℕ → ℕ → ℕ
part j signer now i = cond (counts j signer now i) (word j JOURNAL_LEN i ENTRY_AMOUNT) 0

abbrev adds : List ℕ → ℕ → ℕ → ℕ
adds vs signer now =
    cond (all (eqb (get_or vs SIGNER 0) signer ∷ one_of paying (get_or vs OPERATION 0) ∷ leb now (get_or vs SETTLED_AT 0 + DAY_MS) ∷ [])) (get_or vs ENTRY_AMOUNT 0) 0

counted_new : (L : Ledger) (vs : List ℕ) → ENTRIES < length L.header → length vs ≡ JOURNAL_LEN → entry_count L * JOURNAL_LEN + JOURNAL_LEN ≤ length L.journal
    → (signer now : ℕ) → counted (new_entry vs L) signer now ≡ counted L signer now + adds vs signer now
unfolding counted counted_of new_entry put_head
counted_new L vs wide whole fits signer now =
    rw (new_count L vs wide)
    (sum_step (entry_count L) (part t signer now)
    ∙ ap₂ ◌+◌
    (sum_ext (entry_count L) (part t signer now) (part L.journal signer now) (λ i l. rw (old i l SIGNER (lit< tt), old i l OPERATION (lit< tt), old i l SETTLED_AT (lit< tt), old i l ENTRY_AMOUNT (lit< tt))))
    (rw (new SIGNER (lit< tt), new OPERATION (lit< tt), new SETTLED_AT (lit< tt), new ENTRY_AMOUNT (lit< tt))))
  where
    t : List ℕ
    t = put_row L.journal JOURNAL_LEN (entry_count L) vs

    old : (i : ℕ) → i < entry_count L → (k : ℕ) → k < JOURNAL_LEN → word t JOURNAL_LEN i k ≡ entry L i k
    old i l k h = word_old L.journal JOURNAL_LEN (entry_count L) i k vs l h

    new : (k : ℕ) → k < JOURNAL_LEN → word t JOURNAL_LEN (entry_count L) k ≡ get_or vs k 0
    new k h = word_new L.journal JOURNAL_LEN (entry_count L) k vs (omega (arith, whole, fits)) (omega (arith, whole))

-- ---- settling

-- a sweep takes nothing
sweep_takes_none : (s : Submission) → s.op ≡ SWEEP → (signer now : ℕ) → taken s signer now ≡ 0
sweep_takes_none s e signer now =
    let other : one_of paying s.op ≡ false = ap (one_of paying) e in
    rw (and_none_snd (eqb s.signer signer) (one_of paying s.op && leb now (s.now + DAY_MS)) (and_none_fst (one_of paying s.op) (leb now (s.now + DAY_MS)) other))

module _ (s : Submission) (L : Ledger) (wide : ENTRIES < length L.header) where
  k : Keeps L (before_entry s L)
  k = keeps_before s L

  counted_settled : (s.op ≢ SWEEP → entry_count L < rows_in JOURNAL_LEN L.journal) → (signer now : ℕ)
      → counted (settle s L).after signer now ≡ counted L signer now + taken s signer now
  unfolding settle_by enter
  counted_settled place signer now =
      cond_case (λ (K : Ledger). counted K signer now ≡ counted L signer now + taken s signer now) (eqb s.op SWEEP) (before_entry s L) _
      (λ e. omega (arith, counted_kept k signer now, sweep_takes_none s (eqb-true _ _ e) signer now))
      (λ e. counted_new (before_entry s L) _ (omega (arith, k.lengths.header)) refl
      (omega (arith, room JOURNAL_LEN (entry_count L) L.journal (place (eqb-false _ _ e)), k.count, ap length k.rows)) signer now
      ∙ ap (λ (n : ℕ). n + taken s signer now) (counted_kept k signer now))

pub room_is_taken : RoomIsTaken
room_is_taken L h b zero signer now =
    by_left (λ (K : Ledger). counted K signer now ≡ counted L signer now + taken (read_of b).submission signer now) L b
    (λ e. let passed = settled L (read_of b) e in
    counted_settled (read_of b).submission L (header_wide L passed.lengths h)
    (λ ne. (settled_signed L (read_of b) e (formed_says _ (read_formed b passed.formed)) ne).place) signer now)
    (λ e. absurd (e (sym (number_is L b) ∙ zero)))
