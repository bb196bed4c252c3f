-- A claim: the rows that the table of refusals leaves for it, and that its checks are those, in each case of what looking up
-- its parties finds. The hypotheses of a law are what the calls ensure.
use mathlib.Core.Path.{◌≡◌, refl, sym, ◌∙◌}
use mathlib.Core.List.{List, [], ◌∷◌, ◌++◌}
use mathlib.Core.Bool.{true, false, not, cond, ◌&&◌, ◌||◌}
use Prim.Native.Nat.{ℕ, ◌+◌, ◌-◌}
use lib.ListN.{get_or}
use lib.Dec.{eqb, ltb, leb}
use mathlib.Core.Logic.{⊎_elim}
use Rattle.std.specs.Prelude.{◌≢◌}
use Rattle.std.proofs.lemmas.Bool.{ne_eqb}
use Rattle.std.proofs.lemmas.Bool.Decides.{eqb_tells}
use Rattle.rules.proofs.Refused.{numbered}
use Rattle.rules.specs.Limits.{RECEIPT_LEN, JOURNAL_LEN, MIN_ACCEPTANCE_MS, MAX_ACCEPTANCE_MS, CLAIM, ESCROWS}
use Rattle.rules.specs.Limits.{FROM, TO, ESCROW_DEADLINE, ESCROW_STATE, IS_OPEN}
use Rattle.rules.specs.Table.{word}
use Rattle.rules.specs.Ledger.{Ledger, wallet_count, escrow_count, receipt_count, entry_count, ledger_of, has_wallet, written, full}
use Rattle.rules.specs.Wallets.{looked_up, is_closed}
use Rattle.rules.specs.Refusals.{Refusal, row, first, operation_refusals_by, operation_refusals}
use Rattle.rules.specs.declared.Edition.{Edition}
use Rattle.rules.specs.declared.Submission.{Submission}
use Rattle.rules.specs.declared.WalletState.{WalletState}
use Rattle.rules.specs.declared.WalletState.TheVariants.{Missing, Live, Closed}
use Rattle.rules.proofs.Wallets.{Says, look_says}
use Rattle.holds.specs.Terms.{link_refusals, term_refusals}

unfoldable pub of_claim : Ledger → Submission → List Refusal
of_claim L s =
    row 15 (eqb s.target 0 || eqb s.target s.signer)
    ∷ row 43 (is_closed L s.signer || is_closed L s.target)
    ∷ row 22 (not (has_wallet L s.signer))
    ∷ row 23 (not (has_wallet L s.target))
    ∷ term_refusals L s

pub claim_rows : (L : Ledger) (s : Submission) → s.op ≡ CLAIM → first (operation_refusals L s) ≡ first (of_claim L s)
unfolding operation_refusals_by of_claim term_refusals
claim_rows L s o = simp o

-- ---- the terms

-- room
abbrev pub room : Ledger → List Refusal
room L = row 39 (full RECEIPT_LEN L.receipts (receipt_count L)) ∷ row 40 (full JOURNAL_LEN L.journal (entry_count L)) ∷ []

-- the times, and then the rest
abbrev pub times : Submission → ℕ → ℕ
times s rest =
    cond (ltb s.until (s.issued + MIN_ACCEPTANCE_MS)) 24
    (cond (ltb (s.issued + MAX_ACCEPTANCE_MS) s.until) 25
    (cond (ltb s.until s.now) 26 rest))

-- with a link and without one
pub linked : (L : Ledger) (s : Submission) → s.link ≢ 0 → times s (first (link_refusals L s ++ room L)) ≡ first (term_refusals L s)
unfolding term_refusals link_refusals
linked L s l = rw (ne_eqb s.link 0 l)

pub unlinked : (L : Ledger) (s : Submission) → s.link ≡ 0 → times s (first (room L)) ≡ first (term_refusals L s)
unfolding term_refusals
unlinked L s l = rw l

-- either way it is the times first
pub timed : (L : Ledger) (s : Submission) → times s (cond (eqb s.link 0) (first (room L)) (first (link_refusals L s ++ room L))) ≡ first (term_refusals L s)
timed L s = ⊎_elim (λ p. rw p.0 (unlinked L s p.1)) (λ p. rw p.0 (linked L s p.1)) (eqb_tells s.link 0)

-- each has a number
pub link_numbered : (L : Ledger) (s : Submission) → numbered (link_refusals L s) ≡ true
unfolding link_refusals
link_numbered L s = refl

-- ---- the escrow

pub link_absent : (L : Ledger) (s : Submission) → written (escrow_count L) s.link ≡ false → 27 ≡ first (link_refusals L s)
unfolding link_refusals
link_absent L s t = rw t

pub link_by :
    (ed : Edition) (h w e r j : List ℕ) (s : Submission) (from to deadline state : ℕ)
    → written (get_or h ESCROWS 0) s.link ≡ true
    → from ≡ word e ed.escrow (s.link - 1) FROM
    → to ≡ word e ed.escrow (s.link - 1) TO
    → deadline ≡ word e ed.escrow (s.link - 1) ESCROW_DEADLINE
    → state ≡ word e ed.escrow (s.link - 1) ESCROW_STATE
    → cond (not (eqb state IS_OPEN && leb s.now deadline)) 29
    (cond (not (eqb from s.target) || not (eqb to s.signer)) 30
    (cond (ltb deadline s.until) 31 0))
    ≡ first (link_refusals (ledger_of ed h w e r j) s)
unfolding link_refusals
link_by ed h w e r j s from to deadline state t a b d f = rw (t, a, b, d, f)

-- ---- the parties

-- what the provider's wallet and then the requester's decide: closed is 43, missing is 22 or 23, and two live ones leave the rest
abbrev pub by_parties : ℕ → WalletState → WalletState → ℕ
by_parties rest Missing Missing = 22
by_parties rest Missing (Live k) = 22
by_parties rest Missing (Closed k) = 43
by_parties rest (Live j) Missing = 23
by_parties rest (Live j) (Live k) = rest
by_parties rest (Live j) (Closed k) = 43
by_parties rest (Closed j) requester = 43

pub claim_by :
    (L : Ledger) (s : Submission) (provider requester : WalletState)
    → s.op ≡ CLAIM
    → eqb s.target 0 || eqb s.target s.signer ≡ false
    → provider ≡ looked_up L s.signer
    → requester ≡ looked_up L s.target
    → by_parties (first (term_refusals L s)) provider requester ≡ first (operation_refusals L s)
unfolding of_claim
claim_by L s provider requester o valid p q =
    checks provider requester (look_says L.wallets (wallet_count L) s.signer provider p) (look_says L.wallets (wallet_count L) s.target requester q)
    ∙ sym (claim_rows L s o)
  where
    checks : (u v : WalletState) → Says L.wallets (wallet_count L) s.signer u → Says L.wallets (wallet_count L) s.target v
        → by_parties (first (term_refusals L s)) u v ≡ first (of_claim L s)
    checks Missing Missing m l = rw (valid, m, l)
    checks Missing (Live k) m t = rw (valid, m, t.0, t.1)
    checks Missing (Closed k) m t = rw (valid, m, t.0, t.1)
    checks (Live j) Missing u l = rw (valid, u.0, u.1, l)
    checks (Live j) (Live k) u t = rw (valid, u.0, u.1, t.0, t.1)
    checks (Live j) (Closed k) u t = rw (valid, u.0, u.1, t.0, t.1)
    checks (Closed j) v u t = rw (valid, u.0, u.1)

-- a claim on nobody, or on its own signer
pub claim_invalid : (L : Ledger) (s : Submission) → s.op ≡ CLAIM → eqb s.target 0 || eqb s.target s.signer ≡ true → 15 ≡ first (operation_refusals L s)
unfolding of_claim
claim_invalid L s o t = sym (claim_rows L s o ∙ rw t)
