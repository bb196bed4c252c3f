-- A release or a refund: the rows that the table of refusals leaves for it, and that its checks are those, in their order. The
-- hypotheses of the law are what the calls ensure.
use mathlib.Core.Path.{◌≡◌, refl, sym, ◌∙◌}
use mathlib.Core.List.{List, [], ◌∷◌}
use mathlib.Core.Logic.{◌⊎◌, ⊎_elim}
use mathlib.Core.Bool.{Bool, true, false, not, cond, ◌&&◌, or-false}
use Prim.Native.Nat.{ℕ, ◌-◌}
use lib.ListN.{get_or}
use lib.Dec.{eqb, leb}
use Rattle.rules.specs.Limits.{JOURNAL_LEN, RELEASE, REFUND, ADMIN, ESCROWS, ENTRIES, FROM, ESCROW_DEADLINE, ESCROW_STATE, IS_OPEN}
use Rattle.rules.specs.Table.{word}
use Rattle.rules.specs.Ledger.{Ledger, ledger_of, escrow, escrow_count, entry_count, written, full}
use Rattle.rules.specs.Refusals.{Refusal, row, first, clear, of_escrow, releasable, operation_refusals_by, operation_refusals}
use Rattle.rules.specs.declared.Edition.{Edition}
use Rattle.rules.specs.declared.Submission.{Submission}

unfoldable pub of_closing : Ledger → Submission → List Refusal
of_closing L s =
    row 27 (not (written (escrow_count L) s.target))
    ∷ row 28 (of_escrow L s.target (not (eqb s.signer (escrow L (s.target - 1) FROM)) && clear s ADMIN))
    ∷ row 29 (of_escrow L s.target (not (releasable L s.now (s.target - 1))))
    ∷ row 40 (full JOURNAL_LEN L.journal (entry_count L))
    ∷ []

pub release_rows : (L : Ledger) (s : Submission) → s.op ≡ RELEASE → first (operation_refusals L s) ≡ first (of_closing L s)
unfolding operation_refusals_by of_closing
release_rows L s o = simp (o, or-false)

pub refund_rows : (L : Ledger) (s : Submission) → s.op ≡ REFUND → first (operation_refusals L s) ≡ first (of_closing L s)
unfolding operation_refusals_by of_closing
refund_rows L s o = simp (o, or-false)

closing_rows : (L : Ledger) (s : Submission) → (s.op ≡ RELEASE) ⊎ (s.op ≡ REFUND) → first (operation_refusals L s) ≡ first (of_closing L s)
closing_rows L s o = ⊎_elim (release_rows L s) (refund_rows L s) o

pub closing_absent :
    (L : Ledger) (s : Submission) → (s.op ≡ RELEASE) ⊎ (s.op ≡ REFUND) → written (escrow_count L) s.target ≡ false → 27 ≡ first (operation_refusals L s)
unfolding of_closing
closing_absent L s o t = sym (closing_rows L s o ∙ rw t)

-- of a row that is written, and of one that is not, of which nothing is asked
pub closing_by :
    (ed : Edition) (h w e r j : List ℕ) (s : Submission) (there : Bool) (from deadline state : ℕ)
    → (s.op ≡ RELEASE) ⊎ (s.op ≡ REFUND)
    → written (get_or h ESCROWS 0) s.target ≡ there
    → (there ≡ true → from ≡ word e ed.escrow (s.target - 1) FROM)
    → (there ≡ true → deadline ≡ word e ed.escrow (s.target - 1) ESCROW_DEADLINE)
    → (there ≡ true → state ≡ word e ed.escrow (s.target - 1) ESCROW_STATE)
    → cond there
    (cond (not (eqb s.signer from) && clear s ADMIN) 28
    (cond (not (eqb state IS_OPEN && leb s.now deadline)) 29
    (cond (full JOURNAL_LEN j (get_or h ENTRIES 0)) 40 0)))
    27
    ≡ first (operation_refusals (ledger_of ed h w e r j) s)
unfolding of_closing
closing_by ed h w e r j s true from deadline state o t b d f = sym (closing_rows _ s o ∙ rw (t, b refl, d refl, f refl))
closing_by ed h w e r j s false from deadline state o t b d f = closing_absent (ledger_of ed h w e r j) s o t
