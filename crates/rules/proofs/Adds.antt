-- What an entry adds to the figures of the month's report (`adds_of`), by its operation: a refusal adds nothing; a grant and a transfer add their
-- own amount; a release, a refund and an accept that of the escrow that they end; a sweep what its two loops end; any other nothing, since it
-- leaves every escrow that is written in its state.
use mathlib.Core.Path.{◌≡◌, refl, sym, ap, ◌∙◌, subst}
use mathlib.Core.Logic.{◌≢◌}
use mathlib.Core.List.{List, [], ◌∷◌}
use mathlib.Core.Bool.{Bool, true, false, not, cond}
use Prim.Native.Nat.{ℕ, ◌-◌, ◌≤◌, ◌<◌}
use native.Mathlib.Omega.{arith}
use lib.ListN.{get_or}
use lib.Dec.{eqb}
use borrow.Author.Tests.{ne_eqb, eqb-false}
use Rattle.rules.specs.Limits.{ESCROWS, ESCROW_AMOUNT, ESCROW_STATE, IS_OPEN, RELEASED, REFUNDED, EXPIRED, RECEIPT_LINK}
use Rattle.rules.specs.Limits.{GRANT, TRANSFER, OPEN, RELEASE, REFUND, CLAIM, REPLY, OLD_DISPUTE, SWEEP, FREEZE, CAPS, CLOSE, LAST_OPERATION, ACCEPTS}
use Rattle.rules.specs.Table.{word}
use Rattle.rules.specs.Ledger.{Edition, Ledger, outcome, escrow, receipt, escrow_count, receipt_count, put_head, put_wallet, put_receipt, new_escrow, new_receipt, new_entry}
use Rattle.rules.specs.Refusals.{releasable, clear}
use Rattle.rules.specs.Settle.{raise, lower, ensure_wallet, close_receipt, accept_row, swept, escrow_of, operations, idle, operate_by, operate, enter, settle_by, settle, reply}
use Rattle.rules.specs.Settle.{grant, transfer, open_escrow, release, refund, claim, accept, dispute, sweep, freeze, caps, close}
use Rattle.rules.specs.Report.{ended_as, adds_of}
use Rattle.rules.specs.declared.Submission.{Submission}
use Rattle.rules.proofs.Bools.{and_fst, and_snd, cond_case, not_true_false}
use Rattle.rules.proofs.Rows.{word_old}
use Rattle.rules.proofs.Good.{Good}
use Rattle.rules.proofs.Stays.{link_row}
use Rattle.rules.proofs.Keeps.{keeps_accept, keeps_end}
use Rattle.rules.proofs.Calls.{by_op}
use Rattle.rules.proofs.Onward.{Beside, made_beside}
use Rattle.rules.proofs.Ended.{ended_none, ended_beside, ended_same, ended_end, releases, released_if, accept_escrows}

-- a refusal adds nothing
pub adds_none : (L : Ledger) (s : Submission) (n w : ℕ) → n ≢ 0 → adds_of L s (outcome n w L) ≡ 0 ∷ 0 ∷ 0 ∷ 0 ∷ 0 ∷ []
unfolding adds_of
adds_none L s n w ne =
    rw (ne_eqb n 0 ne, ended_none RELEASED L L refl (λ i l. refl), ended_none REFUNDED L L refl (λ i l. refl), ended_none EXPIRED L L refl (λ i l. refl))

-- ---- a submission that settles

-- the figures of an entry that leaves M of L
abbrev pub figures : ℕ → ℕ → Ledger → Ledger → List ℕ
figures granted transferred L M = granted ∷ transferred ∷ ended_as RELEASED L M ∷ ended_as REFUNDED L M ∷ ended_as EXPIRED L M ∷ []

-- clock and journal leave the escrows
settled_escrows : (st : ℕ) (s : Submission) (L : Ledger) → ended_as st L (settle s L).after ≡ ended_as st L (operate s L).after
unfolding settle_by enter new_entry put_head
settled_escrows st s L =
    cond_case (λ (M : Ledger). ended_as st L M ≡ ended_as st L (operate s L).after) (eqb s.op SWEEP) _ _
    (λ e. ended_beside st L (operate s L).after _ refl refl) (λ e. ended_beside st L (operate s L).after _ refl refl)

-- so what the operation of number k leaves decides
pub adds_by : (k w : ℕ) (s : Submission) (L : Ledger) → s.op ≡ k
    → adds_of L s (outcome 0 w (settle s L).after)
    ≡ figures (cond (eqb k GRANT) s.amount 0) (cond (eqb k TRANSFER) s.amount 0) L (get_or operations (k - 1) idle s L).after
unfolding adds_of operate_by
adds_by k w s L o =
    rw (settled_escrows RELEASED s L, settled_escrows REFUNDED s L, settled_escrows EXPIRED s L)
    (ap (λ (n : ℕ). figures (cond (eqb n GRANT) s.amount 0) (cond (eqb n TRANSFER) s.amount 0) L (get_or operations (n - 1) idle s L).after) o)

-- ---- what leaves every state

quiet : (granted transferred : ℕ) (L M : Ledger) → ((st : ℕ) → eqb IS_OPEN st ≡ false → ended_as st L M ≡ 0)
    → figures granted transferred L M ≡ granted ∷ transferred ∷ 0 ∷ 0 ∷ 0 ∷ []
quiet granted transferred L M q = rw (q RELEASED refl, q REFUNDED refl, q EXPIRED refl)

-- a wallet is made beside the escrows
quiet_made : (id : ℕ) (L M : Ledger) → M.edition ≡ (ensure_wallet id L).edition → M.escrows ≡ (ensure_wallet id L).escrows
    → (st : ℕ) → eqb IS_OPEN st ≡ false → ended_as st L M ≡ 0
quiet_made id L M d t st other = let m = made_beside id L in ended_same st L M other (d ∙ m.edition) (t ∙ m.escrows)

-- a new escrow goes behind those that are written
quiet_open : (s : Submission) (L : Ledger) → 8 ≤ L.edition.escrow → (st : ℕ) → eqb IS_OPEN st ≡ false → ended_as st L (open_escrow s L).after ≡ 0
unfolding open_escrow raise lower put_wallet new_escrow put_head
quiet_open s L wide st other =
    let K : Ledger = ensure_wallet s.target L in
    let m : Beside L K = made_beside s.target L in
    let n : escrow_count K ≡ escrow_count L = m.others ESCROWS (omega arith) in
    let K_wide : 8 ≤ K.edition.escrow = subst (λ (e : Edition). 8 ≤ e.escrow) (sym m.edition) wide in
    ended_none st L (open_escrow s L).after other
    (λ i l. word_old K.escrows K.edition.escrow (escrow_count K) i ESCROW_STATE (escrow_of s) (omega arith) (omega arith)
    ∙ (λ j. word (m.escrows j) (m.edition j).escrow i ESCROW_STATE))

quiet_freeze : (s : Submission) (L : Ledger) (st : ℕ) → eqb IS_OPEN st ≡ false → ended_as st L (freeze s L).after ≡ 0
unfolding freeze put_head put_wallet
quiet_freeze s L st other =
    cond_case (λ (M : Ledger). ended_as st L M ≡ 0) (eqb s.target 0) _ _ (λ e. ended_same st L _ other refl refl) (λ e. ended_same st L _ other refl refl)

-- 1 and 2
pub adds_grant : (w : ℕ) (s : Submission) (L : Ledger) → s.op ≡ GRANT → s.amount ∷ 0 ∷ 0 ∷ 0 ∷ 0 ∷ [] ≡ adds_of L s (outcome 0 w (settle s L).after)
unfolding grant raise put_head put_wallet
adds_grant w s L o = sym (adds_by GRANT w s L o ∙ quiet s.amount 0 L (grant s L).after (quiet_made s.target L _ refl refl))

pub adds_transfer : (w : ℕ) (s : Submission) (L : Ledger) → s.op ≡ TRANSFER → 0 ∷ s.amount ∷ 0 ∷ 0 ∷ 0 ∷ [] ≡ adds_of L s (outcome 0 w (settle s L).after)
unfolding transfer raise lower put_wallet
adds_transfer w s L o = sym (adds_by TRANSFER w s L o ∙ quiet 0 s.amount L (transfer s L).after (quiet_made s.target L _ refl refl))

-- 3, 6, 10, 11 and 12: what is none of the others
pub adds_other : (w : ℕ) (s : Submission) (L : Ledger) → 8 ≤ L.edition.escrow → 1 ≤ s.op → s.op ≤ LAST_OPERATION → s.op ≢ OLD_DISPUTE
    → (s.op ≡ GRANT → ⊥) → (s.op ≡ TRANSFER → ⊥) → (s.op ≡ RELEASE → ⊥) → (s.op ≡ REFUND → ⊥) → (s.op ≡ REPLY → ⊥) → (s.op ≡ SWEEP → ⊥)
    → 0 ∷ 0 ∷ 0 ∷ 0 ∷ 0 ∷ [] ≡ adds_of L s (outcome 0 w (settle s L).after)
unfolding claim caps close put_wallet put_head new_receipt
adds_other w s L wide low high not_8 n1 n2 n4 n5 n7 n9 =
    by_op (λ (k : ℕ). s.op ≡ k → 0 ∷ 0 ∷ 0 ∷ 0 ∷ 0 ∷ [] ≡ adds_of L s (outcome 0 w (settle s L).after)) s.op low high not_8
    (λ e o. absurd (n1 o)) (λ e o. absurd (n2 o))
    (λ e o. sym (adds_by OPEN w s L o ∙ quiet 0 0 L (open_escrow s L).after (quiet_open s L wide)))
    (λ e o. absurd (n4 o)) (λ e o. absurd (n5 o))
    (λ e o. sym (adds_by CLAIM w s L o ∙ quiet 0 0 L (claim s L).after (λ st other. ended_same st L _ other refl refl)))
    (λ e o. absurd (n7 o))
    (λ e o. absurd (n9 o))
    (λ e o. sym (adds_by FREEZE w s L o ∙ quiet 0 0 L (freeze s L).after (quiet_freeze s L)))
    (λ e o. sym (adds_by CAPS w s L o ∙ quiet 0 0 L (caps s L).after (λ st other. ended_same st L _ other refl refl)))
    (λ e o. sym (adds_by CLOSE w s L o ∙ quiet 0 0 L (close s L).after (λ st other. ended_same st L _ other refl refl)))
    refl

-- ---- what ends an escrow

-- 4 and 5: the amount of the escrow that they name
module _ (w : ℕ) (s : Submission) (L : Ledger) (g : Good L) (l : s.target - 1 < escrow_count L)
    (open_i : eqb (escrow L (s.target - 1) ESCROW_STATE) IS_OPEN ≡ true) where
  pub adds_release : s.op ≡ RELEASE → 0 ∷ 0 ∷ escrow L (s.target - 1) ESCROW_AMOUNT ∷ 0 ∷ 0 ∷ [] ≡ adds_of L s (outcome 0 w (settle s L).after)
  unfolding release
  adds_release o =
      sym (adds_by RELEASE w s L o
      ∙ rw (ended_end RELEASED RELEASED s.now s.signer (s.target - 1) L refl g l open_i, ended_end REFUNDED RELEASED s.now s.signer (s.target - 1) L refl g l open_i, ended_end EXPIRED RELEASED s.now s.signer (s.target - 1) L refl g l open_i))

  pub adds_refund : s.op ≡ REFUND → 0 ∷ 0 ∷ 0 ∷ escrow L (s.target - 1) ESCROW_AMOUNT ∷ 0 ∷ [] ≡ adds_of L s (outcome 0 w (settle s L).after)
  unfolding refund
  adds_refund o =
      sym (adds_by REFUND w s L o
      ∙ rw (ended_end RELEASED REFUNDED s.now s.signer (s.target - 1) L refl g l open_i, ended_end REFUNDED REFUNDED s.now s.signer (s.target - 1) L refl g l open_i, ended_end EXPIRED REFUNDED s.now s.signer (s.target - 1) L refl g l open_i))

-- one escrow released, or none
pub ended_if : (st : ℕ) (b : Bool) (now signer i : ℕ) (L : Ledger) → eqb IS_OPEN st ≡ false → Good L → i < receipt_count L
    → (b ≡ true → releases L now i ≡ true)
    → ended_as st L (released_if b now signer i L) ≡ cond b (cond (eqb RELEASED st) (escrow L (receipt L i RECEIPT_LINK - 1) ESCROW_AMOUNT) 0) 0
ended_if st false now signer i L other g l h = ended_none st L L other (λ j m. refl)
ended_if st true now signer i L other g l h =
    let k : ℕ = receipt L i RECEIPT_LINK in
    let some_link : not (eqb k 0) ≡ true = and_fst (not (eqb k 0)) (releasable L now (k - 1)) (h refl) in
    let fresh : releasable L now (k - 1) ≡ true = and_snd (not (eqb k 0)) (releasable L now (k - 1)) (h refl) in
    ended_end st RELEASED now signer (k - 1) L other g (link_row L g i l (eqb-false k 0 (not_true_false (eqb k 0) some_link)))
    (and_fst (eqb (escrow L (k - 1) ESCROW_STATE) IS_OPEN) _ fresh)

-- 7, a dispute: nothing
pub adds_dispute : (w : ℕ) (s : Submission) (L : Ledger) → s.op ≡ REPLY → clear s ACCEPTS ≡ true
    → 0 ∷ 0 ∷ 0 ∷ 0 ∷ 0 ∷ [] ≡ adds_of L s (outcome 0 w (settle s L).after)
unfolding reply dispute close_receipt put_receipt
adds_dispute w s L o c = sym (adds_by REPLY w s L o ∙ rw c (quiet 0 0 L (dispute s L).after (λ st other. ended_same st L _ other refl refl)))

-- and an accept: the amount of the linked escrow, if it is open and not stale
pub adds_accept : (w : ℕ) (s : Submission) (L : Ledger) → Good L → s.target - 1 < receipt_count L → s.op ≡ REPLY → clear s ACCEPTS ≡ false
    → 0 ∷ 0 ∷ cond (releases L s.now (s.target - 1)) (escrow L (receipt L (s.target - 1) RECEIPT_LINK - 1) ESCROW_AMOUNT) 0 ∷ 0 ∷ 0 ∷ []
    ≡ adds_of L s (outcome 0 w (settle s L).after)
unfolding reply accept
adds_accept w s L g l o c = sym (adds_by REPLY w s L o ∙ rw (c, one RELEASED refl, one REFUNDED refl ∙ none b, one EXPIRED refl ∙ none b))
  where
    i : ℕ
    i = s.target - 1

    b : Bool
    b = releases L s.now i

    none : (c : Bool) → ◌≡◌ {A = ℕ} (cond c 0 0) 0
    none true = refl
    none false = refl

    K : Ledger
    K = released_if b s.now s.signer i L

    same : K.edition ≡ L.edition
    same = cond_case (λ (M : Ledger). M.edition ≡ L.edition) b _ L (λ e. (keeps_end _ _ _ _ L).lengths.edition) (λ e. refl)

    one : (st : ℕ) → eqb IS_OPEN st ≡ false
        → ended_as st L (accept_row s.now s.signer i L).after ≡ cond b (cond (eqb RELEASED st) (escrow L (receipt L i RECEIPT_LINK - 1) ESCROW_AMOUNT) 0) 0
    one st other =
        ended_beside st L K (accept_row s.now s.signer i L).after ((keeps_accept s.now s.signer i L).lengths.edition ∙ sym same) (accept_escrows s.now s.signer i L)
        ∙ ended_if st b s.now s.signer i L other g l (λ e. e)

-- 9: what its loops end
pub adds_sweep : (w : ℕ) (s : Submission) (L : Ledger) → s.op ≡ SWEEP
    → figures 0 0 L (swept s.now s.amount L).tables ≡ adds_of L s (outcome 0 w (settle s L).after)
unfolding sweep
adds_sweep w s L o = sym (adds_by SWEEP w s L o)
