-- A reply to a claim: the rows that the table of refusals leaves for it, and that its checks are those, in their order. The
-- hypotheses of the law are what the calls ensure.
use mathlib.Core.Path.{◌≡◌, refl, sym, ◌∙◌}
use mathlib.Core.List.{List, [], ◌∷◌}
use mathlib.Core.Bool.{Bool, true, false, not, cond, ◌&&◌}
use Prim.Native.Nat.{ℕ, ◌-◌}
use lib.ListN.{get_or}
use lib.Dec.{eqb, ltb}
use Rattle.rules.specs.Limits.{RECEIPT_LEN, JOURNAL_LEN, REPLY, ACCEPTS, REASON_GIVEN, RECEIPTS, ENTRIES}
use Rattle.rules.specs.Limits.{REQUESTER, ACCEPTANCE_DEADLINE, RECEIPT_STATE, PENDING}
use Rattle.rules.specs.Table.{word}
use Rattle.rules.specs.Ledger.{Ledger, ledger_of, receipt, receipt_count, entry_count, written, full}
use Rattle.rules.specs.Refusals.{Refusal, row, first, clear, of_receipt, operation_refusals_by, operation_refusals}
use Rattle.rules.specs.declared.Edition.{Edition}
use Rattle.rules.specs.declared.Submission.{Submission}

unfoldable of_reply : Ledger → Submission → List Refusal
of_reply L s =
    row 32 (not (written (receipt_count L) s.target))
    ∷ row 33 (of_receipt L s.target (not (eqb s.signer (receipt L (s.target - 1) REQUESTER))))
    ∷ row 34 (of_receipt L s.target (not (eqb (receipt L (s.target - 1) RECEIPT_STATE) PENDING)))
    ∷ row 41 (of_receipt L s.target (ltb (receipt L (s.target - 1) ACCEPTANCE_DEADLINE) s.now))
    ∷ row 35 (clear s ACCEPTS && clear s REASON_GIVEN)
    ∷ row 40 (full JOURNAL_LEN L.journal (entry_count L))
    ∷ []

reply_rows : (L : Ledger) (s : Submission) → s.op ≡ REPLY → first (operation_refusals L s) ≡ first (of_reply L s)
unfolding operation_refusals_by of_reply
reply_rows L s o = simp o

pub reply_absent : (L : Ledger) (s : Submission) → s.op ≡ REPLY → written (receipt_count L) s.target ≡ false → 32 ≡ first (operation_refusals L s)
unfolding of_reply
reply_absent L s o t = sym (reply_rows L s o ∙ rw t)

-- of a row that is written, and of one that is not, of which nothing is asked
pub reply_by :
    (ed : Edition) (h w e r j : List ℕ) (s : Submission) (there : Bool) (requester deadline state : ℕ)
    → s.op ≡ REPLY
    → written (get_or h RECEIPTS 0) s.target ≡ there
    → (there ≡ true → requester ≡ word r RECEIPT_LEN (s.target - 1) REQUESTER)
    → (there ≡ true → deadline ≡ word r RECEIPT_LEN (s.target - 1) ACCEPTANCE_DEADLINE)
    → (there ≡ true → state ≡ word r RECEIPT_LEN (s.target - 1) RECEIPT_STATE)
    → cond there
    (cond (not (eqb s.signer requester)) 33
    (cond (not (eqb state PENDING)) 34
    (cond (ltb deadline s.now) 41
    (cond (clear s ACCEPTS && clear s REASON_GIVEN) 35
    (cond (full JOURNAL_LEN j (get_or h ENTRIES 0)) 40 0)))))
    32
    ≡ first (operation_refusals (ledger_of ed h w e r j) s)
unfolding of_reply
reply_by ed h w e r j s true requester deadline state o t b d f = sym (reply_rows _ s o ∙ rw (t, b refl, d refl, f refl))
reply_by ed h w e r j s false requester deadline state o t b d f = reply_absent (ledger_of ed h w e r j) s o t
