-- THE REPLAY GUARD. Once a submission other than a sweep has settled, its signer and nonce stand in a journal row; rows of the journal stay
-- through every call; so a later submission with that signer and nonce is refused, however many calls lie between. A sweep has the signer 0,
-- which no other settled submission has.
use mathlib.Core.Path.{◌≡◌, refl, sym, ap, ap₂, ◌∙◌, subst}
use mathlib.Core.Logic.{◌≢◌}
use mathlib.Core.List.{List, [], ◌∷◌, ◌++◌}
use mathlib.Core.Bool.{true, not, ◌&&◌, true≢false}
use Prim.Native.Nat.{ℕ, ◌+◌, ◌*◌, ◌≤◌, ◌<◌}
use native.Mathlib.Omega.{arith}
use lib.ListN.{get_or, length}
use lib.Seq.{get_or-set_same}
use lib.Dec.{eqb, lit<}
use borrow.Author.Tests.{eqb-true, eqb-false, eq-eqb}
use Rattle.rules.specs.Limits.{HEADER_LEN, JOURNAL_LEN, ENTRIES, SIGNER, NONCE, SWEEP}
use Rattle.rules.specs.Table.{word, some, rows_in}
use Rattle.rules.specs.Ledger.{Edition, Ledger, entry, entry_count, put_head, new_entry, fresh}
use Rattle.rules.specs.Record.{read_of}
use Rattle.rules.specs.Refusals.{seen_in, seen}
use Rattle.rules.specs.Settle.{enter, settle_by, settle}
use Rattle.rules.specs.Submit.{answer_of, submit}
use Rattle.rules.specs.History.{Call, starts_afresh, Event, submitted, begun, leaves, says, after, said, unbroken}
use Rattle.rules.specs.Promises.{started, ReplayGuard}
use Rattle.rules.specs.declared.Submission.{Submission}
use Rattle.rules.proofs.Bools.{and_fst, and_snd, and_intro, not_true_false, cond_case}
use Rattle.rules.proofs.Rows.{room, word_new, word_old}
use Rattle.rules.proofs.Counts.{some_of, some_mono}
use Rattle.rules.proofs.Tests.{header_wide}
use Rattle.rules.proofs.Formed.{Formed, formed_says, read_formed}
use Rattle.rules.proofs.Calls.{by_left, number_is, settled, settled_signed}
use Rattle.rules.proofs.Demand12.{fresh_refused, refusal_changes_nothing}
use Rattle.rules.proofs.Keeps.{Keeps, before_entry, keeps_before}
use Rattle.rules.proofs.Lengths.{lengths_submit, lengths_call, by_call}

-- ---- a new journal row is seen, and hides none

seen_kept : {L K : Ledger} → Keeps L K → (g n : ℕ) → seen L g n ≡ seen K g n
unfolding seen seen_in
seen_kept {L} {K} k g n =
    ap₂ (λ (m : ℕ) (j : List ℕ). some m (λ i. eqb (word j JOURNAL_LEN i SIGNER) g && eqb (word j JOURNAL_LEN i NONCE) n)) (sym k.count) (sym k.rows)

module _ (L : Ledger) (vs : List ℕ) (wide : ENTRIES < length L.header) where
  pub new_count : entry_count (new_entry vs L) ≡ entry_count L + 1
  unfolding new_entry put_head
  new_count = get_or-set_same L.header ENTRIES (entry_count L + 1) 0 wide

  seen_old : (g n : ℕ) → seen L g n ≡ true → seen (new_entry vs L) g n ≡ true
  unfolding seen seen_in new_entry put_head
  seen_old g n h =
      some_mono (entry_count L) (entry_count (new_entry vs L)) (λ i. eqb (entry L i SIGNER) g && eqb (entry L i NONCE) n) _ (omega (arith, new_count))
      (λ i l. ap₂ (λ (x y : ℕ). eqb x g && eqb y n) (sym (word_old L.journal JOURNAL_LEN (entry_count L) i SIGNER vs l (lit< tt)))
      (sym (word_old L.journal JOURNAL_LEN (entry_count L) i NONCE vs l (lit< tt)))) h

  seen_new : length vs ≡ JOURNAL_LEN → entry_count L * JOURNAL_LEN + JOURNAL_LEN ≤ length L.journal → seen (new_entry vs L) (get_or vs SIGNER 0) (get_or vs NONCE 0) ≡ true
  unfolding seen seen_in new_entry put_head
  seen_new whole fits =
      some_of (entry_count (new_entry vs L)) _ (entry_count L) (omega (arith, new_count))
      (ap₂ ◌&&◌ (eq-eqb _ _ (word_new L.journal JOURNAL_LEN (entry_count L) SIGNER vs (omega arith) (omega arith)))
      (eq-eqb _ _ (word_new L.journal JOURNAL_LEN (entry_count L) NONCE vs (omega arith) (omega arith))))

-- ---- settling

module _ (s : Submission) (L : Ledger) (wide : ENTRIES < length L.header) where
  k : Keeps L (before_entry s L)
  k = keeps_before s L

  wide_before : ENTRIES < length (before_entry s L).header
  wide_before = omega (arith, k.lengths.header)

  seen_stays : (g n : ℕ) → seen L g n ≡ true → seen (settle s L).after g n ≡ true
  unfolding settle_by enter
  seen_stays g n h =
      let h' : seen (before_entry s L) g n ≡ true = sym (seen_kept k g n) ∙ h in
      cond_case (λ (K : Ledger). seen K g n ≡ true) (eqb s.op SWEEP) (before_entry s L) _ (λ e. h')
      (λ e. seen_old (before_entry s L) _ wide_before g n h')

  seen_itself : s.op ≢ SWEEP → entry_count L < rows_in JOURNAL_LEN L.journal → seen (settle s L).after s.signer s.nonce ≡ true
  unfolding settle_by enter
  seen_itself ne place =
      cond_case (λ (K : Ledger). seen K s.signer s.nonce ≡ true) (eqb s.op SWEEP) (before_entry s L) _ (λ e. absurd (ne (eqb-true _ _ e)))
      (λ e. seen_new (before_entry s L) _ wide_before refl
      (omega (arith, room JOURNAL_LEN (entry_count L) L.journal place, k.count, ap length k.rows)))

-- ---- calls

wide_of : (L : Ledger) (b : List ℕ) → answer_of L (read_of b) ≡ 0 → HEADER_LEN ≤ L.edition.header → ENTRIES < length L.header
wide_of L b e h = header_wide L (settled L (read_of b) e).lengths h

-- no start in the whole history is none in either part
pub unbroken_parts : (xs ys : List Event) → unbroken (xs ++ ys) ≡ true → (unbroken xs ≡ true) × (unbroken ys ≡ true)
unbroken_parts [] ys u = (refl, u)
unbroken_parts (submitted e ∷ xs) ys u = unbroken_parts xs ys u
unbroken_parts (begun n ∷ xs) ys u =
    let both = unbroken_parts xs ys (and_snd (not (eqb n 0)) (unbroken (xs ++ ys)) u) in
    (and_intro (not (eqb n 0)) (unbroken xs) (and_fst (not (eqb n 0)) (unbroken (xs ++ ys)) u) both.0, both.1)

-- what was seen is seen after any calls that do not start afresh
seen_submit : (L : Ledger) → HEADER_LEN ≤ L.edition.header → (g n : ℕ) → seen L g n ≡ true → (b : List ℕ) → seen (submit L b).left g n ≡ true
seen_submit L h g n x b =
    by_left (λ (K : Ledger). seen K g n ≡ true) L b (λ e. seen_stays (read_of b).submission L (wide_of L b e h) g n x) (λ e. x)

-- and after a start afresh that is refused
seen_started : (L : Ledger) (g n : ℕ) → seen L g n ≡ true → unbroken (says L starts_afresh) ≡ true → seen (started L) g n ≡ true
seen_started L g n x u =
    subst (λ (K : Ledger). seen K g n ≡ true)
    (sym (fresh_refused L (eqb-false (fresh L).number 0 (not_true_false (eqb (fresh L).number 0) (and_fst (not (eqb (fresh L).number 0)) true u))))) x

pub seen_after : (L : Ledger) → HEADER_LEN ≤ L.edition.header → (calls : List Call) (g n : ℕ) → seen L g n ≡ true → unbroken (said L calls) ≡ true
    → seen (after L calls) g n ≡ true
seen_after L h [] g n x u = x
seen_after L h (c ∷ cs) g n x u =
    let both = unbroken_parts (says L c) (said (leaves L c) cs) u in
    seen_after (leaves L c) (subst (λ (e : Edition). HEADER_LEN ≤ e.header) (sym (lengths_call L h c).edition) h) cs g n
    (by_call (λ (K : Ledger). seen K g n ≡ true) L x (seen_submit L h g n x) c
    (λ e. seen_started L g n x (subst (λ (d : Call). unbroken (says L d) ≡ true) e both.0)))
    both.1

pub replay_guard : ReplayGuard
replay_guard L h b between c zero_b not_sweep unbroken_between same_signer same_nonce =
    refusal_changes_nothing N c (λ z. never (sym (number_is N c) ∙ z))
  where
    s : Submission
    s = (read_of b).submission

    M : Ledger
    M = (submit L b).left

    N : Ledger
    N = after M between

    ok : answer_of L (read_of b) ≡ 0
    ok = sym (number_is L b) ∙ zero_b

    form : Formed s
    form = formed_says s (read_formed b (settled L (read_of b) ok).formed)

    seen_M : seen M s.signer s.nonce ≡ true
    seen_M =
        by_left (λ (K : Ledger). seen K s.signer s.nonce ≡ true) L b
        (λ e. seen_itself s L (wide_of L b e h) not_sweep (settled_signed L (read_of b) e form not_sweep).place) (λ e. absurd (e ok))

    seen_N : seen N s.signer s.nonce ≡ true
    seen_N = seen_after M (subst (λ (e : Edition). HEADER_LEN ≤ e.header) (sym (lengths_submit L b).edition) h) between s.signer s.nonce seen_M unbroken_between

    never : answer_of N (read_of c) ≢ 0
    never e =
        let form_c = formed_says (read_of c).submission (read_formed c (settled N (read_of c) e).formed) in
        let no_sweep : (read_of c).submission.op ≢ SWEEP = λ x. form.named not_sweep (sym same_signer ∙ form_c.sweep_unsigned x) in
        true≢false (sym seen_N ∙ sym (ap₂ (seen N) same_signer same_nonce) ∙ (settled_signed N (read_of c) e form_c no_sweep).unseen)
