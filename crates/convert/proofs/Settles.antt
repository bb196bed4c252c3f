-- ONE SUBMISSION. On two ledgers that differ in the journal's operation word of replies only, the old form and, converted, today's answer the same
-- number and word, and leave two such ledgers: the refusals are the same row by row, the operation is the same and does not look at the
-- journal, and the new rows differ in the operation of a dispute alone.
use mathlib.Core.Path.{◌≡◌, refl, sym, ap, ap₂, ◌∙◌, subst}
use mathlib.Core.Logic.{inr}
use mathlib.Core.List.{List, [], ◌∷◌, ◌++◌}
use Prim.Native.Nat.{ℕ, zero, suc, ◌*◌}
use native.Mathlib.Omega.{arith}
use lib.Dec.{eqb}
use Rattle.rules.specs.Limits.{JOURNAL_LEN, OLD_ACCEPT, OLD_DISPUTE, REPLY, SWEEP, CLOCK}
use Rattle.rules.specs.Table.{put_row}
use Rattle.rules.specs.Ledger.{Ledger, entry_count, set_journal, put_head, new_entry}
use Rattle.rules.specs.Record.{read_by}
use Rattle.rules.specs.Refusals.{first, entry_refusals, refusals_by}
use Rattle.rules.specs.Settle.{Done, done, operate_by, entry_of, enter, settle_by}
use Rattle.rules.specs.Submit.{answer_by, finish, submit_read_by, submit_by, submit}
use Rattle.rules.specs.Convert.{convert_record}
use Rattle.rules.specs.Converted.{old_rule, DifferInReplies, AnswersAlike, ConvertedSettles}
use Rattle.rules.specs.declared.Form.TheVariants.{Old, Today}
use Rattle.rules.specs.declared.Read.{Read}
use Rattle.rules.specs.declared.Submission.{Submission}
use Rattle.rules.proofs.Agree.{cond_rel}
use Rattle.convert.proofs.Apart.{with_journal, operate_apart, keeps_journal}
use Rattle.convert.proofs.Journals.{Alike, entry_rows, envelope_rows, operation_rows, set_alike, sets_alike}
use Rattle.convert.proofs.Forms.{reformed, Converts, stays, accepts, disputes, envelope_same, operation_same, operate_same, Reads, read_converted}

-- ---- two such ledgers are one, with two journals

pub differ_with : (K : Ledger) (j : List ℕ) → Alike K.journal j → DifferInReplies K (set_journal j K)
differ_with K j a = record { edition = refl; header = refl; wallets = refl; escrows = refl; receipts = refl; lengths = a.lengths; words = a.words }

is_with : (K L : Ledger) → DifferInReplies K L → set_journal L.journal K ≡ L
is_with K L d = rw (d.edition, d.header, d.wallets, d.escrows, d.receipts)

-- ---- the new row

-- a dispute's says 8 in the old form and 7 in today's, at the place of the operation; any other is the same
row_alike : {s t : Submission} → Converts s t → (word n : ℕ) (i j : List ℕ) → Alike i j
    → Alike (put_row i JOURNAL_LEN n (entry_of s word)) (put_row j JOURNAL_LEN n (entry_of t word))
row_alike (stays s ne ne') word n i j a = sets_alike (entry_of s word) i j a (n * JOURNAL_LEN)
row_alike (accepts s flags) word n i j a = sets_alike (entry_of (reformed OLD_ACCEPT flags s) word) i j a (n * JOURNAL_LEN)
row_alike (disputes s flags e) word n i j a =
    sets_alike (s.target ∷ s.amount ∷ s.now ∷ word ∷ s.link ∷ []) _ _
    (set_alike _ _ (sets_alike (s.signer ∷ s.nonce ∷ []) i j a (n * JOURNAL_LEN)) (suc (suc (n * JOURNAL_LEN))) OLD_DISPUTE REPLY
    (inr (omega arith, refl, refl)))
    (suc (suc (suc (n * JOURNAL_LEN))))

-- it is counted in the header of both
new_alike : {s t : Submission} → Converts s t → (word : ℕ) (M : Ledger) (j : List ℕ) → Alike M.journal j
    → DifferInReplies (new_entry (entry_of s word) M) (new_entry (entry_of t word) (set_journal j M))
unfolding new_entry put_head
new_alike c word M j a = differ_with _ _ (row_alike c word (entry_count M) M.journal j a)

-- both are a sweep or neither, and both have the same time
sweep_same : {s t : Submission} → Converts s t → eqb s.op SWEEP ≡ eqb t.op SWEEP
sweep_same (stays s ne ne') = refl
sweep_same (accepts s flags) = refl
sweep_same (disputes s flags e) = refl

now_same : {s t : Submission} → Converts s t → s.now ≡ t.now
now_same (stays s ne ne') = refl
now_same (accepts s flags) = refl
now_same (disputes s flags e) = refl

-- a sweep adds no row
enter_alike : {s t : Submission} → Converts s t → (word : ℕ) (M : Ledger) (j : List ℕ) → Alike M.journal j
    → DifferInReplies (enter s word M) (enter t word (set_journal j M))
unfolding enter
enter_alike {s} {t} c word M j a =
    cond_rel DifferInReplies (eqb s.op SWEEP) (eqb t.op SWEEP) _ _ _ _ (sweep_same c) (λ e. differ_with M j a) (λ e. new_alike c word M j a)

-- ---- settled

record SameDone (d e : Done) : Type 0 where
  word : d.word ≡ e.word
  after : DifferInReplies d.after e.after

module _ (K : Ledger) (j : List ℕ) (a : Alike K.journal j) where
  -- the operation, then the clock, then the journal
  settled_alike : {s t : Submission} → Converts s t → SameDone (settle_by Old s K) (settle_by Today t (set_journal j K))
  unfolding settle_by put_head
  settled_alike {s} {t} c =
      let d : Done = operate_by Old s K in
      let e : with_journal j d ≡ operate_by Today t (set_journal j K) = sym (operate_same (set_journal j K) c ∙ operate_apart j s K) in
      let M : Ledger = put_head CLOCK s.now d.after in
      let x : DifferInReplies (enter s d.word M) (enter t d.word (set_journal j M)) =
      enter_alike c d.word M j (subst (λ (i : List ℕ). Alike i j) (sym (keeps_journal s K)) a) in
      subst (λ (f : Done). SameDone (settle_by Old s K) (done f.word (enter t f.word (put_head CLOCK t.now f.after)))) e
      (subst (λ (n : ℕ). SameDone (settle_by Old s K) (done d.word (enter t d.word (put_head CLOCK n (set_journal j d.after))))) (now_same c)
      (record { word = refl; after = x }))

  -- ---- answered

  answered_alike : (r r' : Read) → Reads r r' → answer_by Old K r ≡ answer_by Today (set_journal j K) r'
  unfolding answer_by refusals_by
  answered_alike r r' x =
      ap first
      (ap₂ ◌++◌ (entry_rows K j a r ∙ three)
      (ap₂ ◌++◌ (envelope_rows K j a r.submission ∙ envelope_same (set_journal j K) x.converts)
      (operation_rows K j a Old r.submission ∙ operation_same (set_journal j K) x.converts)))
    where
      -- of what was read they look at the number alone
      three : entry_refusals (set_journal j K) r ≡ entry_refusals (set_journal j K) r'
      three = unfold entry_refusals in rw x.number

  -- settled both, or both refused with the ledgers as they were
  finished_alike : (n : ℕ) (d e : Done) → SameDone d e → AnswersAlike (finish n d K) (finish n e (set_journal j K))
  finished_alike zero d e x = record { number = refl; word = x.word; left = x.after }
  finished_alike (suc n) d e x = record { number = refl; word = refl; left = differ_with K j a }

  submitted_alike : (b : List ℕ) → AnswersAlike (old_rule K b) (submit (set_journal j K) (convert_record b))
  unfolding submit_by submit_read_by
  submitted_alike b =
      let x = read_converted b in
      rw (answered_alike (read_by Old b) (read_by Today (convert_record b)) x)
      (finished_alike (answer_by Today (set_journal j K) (read_by Today (convert_record b))) _ _ (settled_alike x.converts))

pub converted_settles : ConvertedSettles
converted_settles K L d b =
    subst (λ (M : Ledger). AnswersAlike (old_rule K b) (submit M (convert_record b))) (is_with K L d)
    (submitted_alike K L.journal (record { lengths = d.lengths; words = d.words }) b)
