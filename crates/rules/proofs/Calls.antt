-- One call of `submit`: it is refused and leaves the ledger, or settled, and then the conditions that did not hold say what is needed.
use mathlib.Core.Path.{◌≡◌, refl, sym, subst}
use mathlib.Core.Logic.{◌≢◌}
use mathlib.Core.List.{List}
use mathlib.Core.Bool.{Bool, true, false, ◌&&◌, ◌||◌}
use Prim.Native.Nat.{ℕ, zero, suc, ◌+◌, ◌≤◌, ◌<◌}
use native.Mathlib.Omega.{arith}
use lib.Dec.{eqb}
use borrow.Author.Tests.{ne_eqb, leb-false}
use Rattle.rules.specs.Limits.{JOURNAL_LEN}
use Rattle.rules.specs.Limits.{GRANT, TRANSFER, OPEN, RELEASE, REFUND, CLAIM, REPLY, OLD_DISPUTE, SWEEP, FREEZE, CAPS, CLOSE, LAST_OPERATION, ACCEPTS}
use Rattle.rules.specs.Table.{rows_in, every}
use Rattle.rules.specs.Ledger.{Ledger, Outcome, outcome, entry_count, full, lengths_right}
use Rattle.rules.specs.Record.{read_of}
use Rattle.rules.specs.Sound.{sound}
use Rattle.rules.specs.Refusals.{refusals_by, entry_refusals, envelope_refusals, operation_refusals_by, one_of, on, signed, clear, seen}
use Rattle.rules.specs.Settle.{Done, accept, dispute, reply, settle}
use Rattle.rules.specs.Submit.{answer_of, finish, submit_read_by, submit_by, submit}
use Rattle.rules.specs.declared.Submission.{Submission}
use Rattle.rules.specs.declared.Read.{Read}
use Rattle.rules.proofs.Bools.{or_other, not_false_true, cond_case}
use Rattle.rules.proofs.Counts.{every_at}
use Rattle.rules.proofs.Formed.{Formed}
use Rattle.rules.proofs.Refused.{passed}

-- ---- the answer

-- what holds of a refusal, and of a settled submission, holds of the answer
pub by_answer {κ} : (P : Outcome → Type κ) (L : Ledger) (b : List ℕ)
    → (answer_of L (read_of b) ≡ 0 → P (outcome 0 (settle (read_of b).submission L).word (settle (read_of b).submission L).after))
    → (answer_of L (read_of b) ≢ 0 → P (outcome (answer_of L (read_of b)) 0 L)) → P (submit L b)
unfolding submit_by submit_read_by
by_answer P L b f g = go (answer_of L (read_of b)) f g
  where
    d : Done
    d = settle (read_of b).submission L

    go : (n : ℕ) → (n ≡ 0 → P (outcome 0 d.word d.after)) → (n ≢ 0 → P (outcome n 0 L)) → P (finish n d L)
    go zero f g = f refl
    go (suc n) f g = g (omega arith)

pub number_is : (L : Ledger) (b : List ℕ) → (submit L b).number ≡ answer_of L (read_of b)
number_is L b = by_answer (λ (o : Outcome). o.number ≡ answer_of L (read_of b)) L b (λ e. sym e) (λ e. refl)

-- what a call leaves is what settling leaves, or the ledger
pub by_left {κ} : (P : Ledger → Type κ) (L : Ledger) (b : List ℕ)
    → (answer_of L (read_of b) ≡ 0 → P (settle (read_of b).submission L).after) → (answer_of L (read_of b) ≢ 0 → P L) → P (submit L b).left
by_left P L b f g = by_answer (λ (o : Outcome). P o.left) L b f g

-- ---- what a settled submission has passed

pub record Settled (L : Ledger) (r : Read) : Type 0 where
  pub lengths : lengths_right L ≡ true
  pub is_sound : sound L ≡ true
  pub formed : eqb r.number 3 ≡ false
  pub unseen : one_of signed r.submission.op && seen L r.submission.signer r.submission.nonce ≡ false
  pub place : one_of signed r.submission.op && full JOURNAL_LEN L.journal (entry_count L) ≡ false

pub settled : (L : Ledger) (r : Read) → answer_of L r ≡ 0 → Settled L r
unfolding refusals_by entry_refusals envelope_refusals operation_refusals_by
settled L r e = record {
  lengths = not_false_true (lengths_right L) (passed L r e 1);
  is_sound = not_false_true (sound L) (passed L r e 2);
  formed = passed L r e 3;
  unseen = passed L r e 11;
  place = passed L r e 40;
}

-- a condition on some operations, for one of them
pub for_op : (s : Submission) (ops : List ℕ) (x : Bool) → one_of ops s.op ≡ true → on s ops x ≡ false → x ≡ false
for_op s ops x t h = subst (λ (b : Bool). b && x ≡ false) t h

-- every operation but the sweep is signed: computed for each
pub signed_op : (o : ℕ) → 1 ≤ o → o ≤ LAST_OPERATION → o ≢ SWEEP → one_of signed o ≡ true
signed_op o low high ne =
    or_other (eqb o SWEEP) (one_of signed o) (ne_eqb o SWEEP ne)
    (or_other (eqb o 0) (eqb o SWEEP || one_of signed o) (ne_eqb o 0 (omega arith))
    (every_at (LAST_OPERATION + 1) (λ k. eqb k 0 || (eqb k SWEEP || one_of signed k)) (unfold every in refl) o (omega arith)))

-- a settled submission other than a sweep: its signer, and room for its journal row
pub record Signed (L : Ledger) (r : Read) : Type 0 where
  pub unseen : seen L r.submission.signer r.submission.nonce ≡ false
  pub place : entry_count L < rows_in JOURNAL_LEN L.journal

pub settled_signed : (L : Ledger) (r : Read) → answer_of L r ≡ 0 → Formed r.submission → r.submission.op ≢ SWEEP → Signed L r
settled_signed L r e f ne =
    let s : Submission = r.submission in
    let t : one_of signed s.op ≡ true = signed_op s.op f.low f.high ne in
    record {
      unseen = for_op s signed _ t (settled L r e).unseen;
      place = leb-false (rows_in JOURNAL_LEN L.journal) (entry_count L) (for_op s signed _ t (settled L r e).place);
    }

-- a fact for each operation is a fact for the operation of a well-formed submission
pub by_op {κ} : (Q : ℕ → Type κ) (o : ℕ) → 1 ≤ o → o ≤ LAST_OPERATION → o ≢ OLD_DISPUTE → (o ≡ GRANT → Q GRANT) → (o ≡ TRANSFER → Q TRANSFER)
    → (o ≡ OPEN → Q OPEN) → (o ≡ RELEASE → Q RELEASE) → (o ≡ REFUND → Q REFUND) → (o ≡ CLAIM → Q CLAIM) → (o ≡ REPLY → Q REPLY)
    → (o ≡ SWEEP → Q SWEEP) → (o ≡ FREEZE → Q FREEZE) → (o ≡ CAPS → Q CAPS) → (o ≡ CLOSE → Q CLOSE) → Q o
by_op Q zero a b ne f1 f2 f3 f4 f5 f6 f7 f9 f10 f11 f12 = absurd (omega arith)
by_op Q (suc zero) a b ne f1 f2 f3 f4 f5 f6 f7 f9 f10 f11 f12 = f1 refl
by_op Q (suc (suc zero)) a b ne f1 f2 f3 f4 f5 f6 f7 f9 f10 f11 f12 = f2 refl
by_op Q (suc (suc (suc zero))) a b ne f1 f2 f3 f4 f5 f6 f7 f9 f10 f11 f12 = f3 refl
by_op Q (suc (suc (suc (suc zero)))) a b ne f1 f2 f3 f4 f5 f6 f7 f9 f10 f11 f12 = f4 refl
by_op Q (suc (suc (suc (suc (suc zero))))) a b ne f1 f2 f3 f4 f5 f6 f7 f9 f10 f11 f12 = f5 refl
by_op Q (suc (suc (suc (suc (suc (suc zero)))))) a b ne f1 f2 f3 f4 f5 f6 f7 f9 f10 f11 f12 = f6 refl
by_op Q (suc (suc (suc (suc (suc (suc (suc zero))))))) a b ne f1 f2 f3 f4 f5 f6 f7 f9 f10 f11 f12 = f7 refl
by_op Q (suc (suc (suc (suc (suc (suc (suc (suc zero)))))))) a b ne f1 f2 f3 f4 f5 f6 f7 f9 f10 f11 f12 = absurd (ne refl)
by_op Q (suc (suc (suc (suc (suc (suc (suc (suc (suc zero))))))))) a b ne f1 f2 f3 f4 f5 f6 f7 f9 f10 f11 f12 = f9 refl
by_op Q (suc (suc (suc (suc (suc (suc (suc (suc (suc (suc zero)))))))))) a b ne f1 f2 f3 f4 f5 f6 f7 f9 f10 f11 f12 = f10 refl
by_op Q (suc (suc (suc (suc (suc (suc (suc (suc (suc (suc (suc zero))))))))))) a b ne f1 f2 f3 f4 f5 f6 f7 f9 f10 f11 f12 = f11 refl
by_op Q (suc (suc (suc (suc (suc (suc (suc (suc (suc (suc (suc (suc zero)))))))))))) a b ne f1 f2 f3 f4 f5 f6 f7 f9 f10 f11 f12 = f12 refl
by_op Q (suc (suc (suc (suc (suc (suc (suc (suc (suc (suc (suc (suc (suc n))))))))))))) a b ne f1 f2 f3 f4 f5 f6 f7 f9 f10 f11 f12 = absurd (omega arith)

-- what holds of a dispute and of an accept, each by its bit 2, holds of a reply
pub by_reply {κ} : (P : Done → Type κ) (s : Submission) (L : Ledger) → (clear s ACCEPTS ≡ true → P (dispute s L)) → (clear s ACCEPTS ≡ false → P (accept s L))
    → P (reply s L)
unfolding reply
by_reply P s L f g = cond_case P (clear s ACCEPTS) (dispute s L) (accept s L) f g
