-- Tables and book agree after each operation. What an operation needs of the ledger (a wallet, a balance, an open escrow, room for a row) is a
-- hypothesis here; Books takes it from the refusals.
use mathlib.Core.Path.{◌≡◌, refl, sym, ◌∙◌, subst, subst₃}
use mathlib.Core.List.{List}
use mathlib.Core.Bool.{true, cond}
use Prim.Native.Nat.{ℕ, ◌+◌, ◌-◌, ◌≤◌, ◌<◌}
use native.Mathlib.Omega.{arith}
use lib.ListN.{length}
use lib.Seq.{get_or-set_same, get_or-set_other}
use lib.Dec.{eqb, lit<}
use Rattle.rules.specs.Limits.{RECEIPT_LEN, LAST_TIME_MS, SYSTEM_FROZEN, GRANTED, WALLETS, ESCROWS, RECEIPTS, BALANCE, FROZEN, TX_CAP, DAILY_CAP}
use Rattle.rules.specs.Limits.{AUTO_OR_FREEZE, ESCROW_STATE, IS_OPEN}
use Rattle.rules.specs.Table.{rows_in}
use Rattle.rules.specs.Ledger.{Edition, Ledger, head, escrow, wallet_count, escrow_count, receipt_count, wallet_row, put_head, put_wallet, new_escrow, new_receipt}
use Rattle.rules.specs.Record.{bit}
use Rattle.rules.specs.Settle.{raise, lower, ensure_wallet, grant, transfer, open_escrow, release, refund, claim, accept, dispute, sweep, freeze, caps, close}
use Rattle.rules.specs.History.{Said, Book, ends, closes, grants, transfers, opens_escrow, releases, refunds, makes_claim, accepts, disputes, sweeps_due}
use Rattle.rules.specs.declared.Submission.{Submission}
use Rattle.rules.proofs.Bools.{cond_case}
use Rattle.rules.proofs.Accounts.{bal}
use Rattle.rules.proofs.Good.{Good}
use Rattle.rules.proofs.Ensured.{WalletPlace, Ensured, ensured}
use Rattle.rules.proofs.Agree.{AccOf, Fits, fits_end, fits_close, fits_accept}
use Rattle.rules.proofs.InStep.{fits_sweep}
use Rattle.rules.proofs.Changes.{fits_make, fits_head, fits_ensured, fits_put_wallet, acc_grant, acc_transfer, acc_open, escs_open, recs_claim}

-- ---- the operations that may make a wallet

module _ (E : Said) (L : Ledger) (B : Book) (g : Good L) (f : Fits L B) (wide : 8 ≤ length L.header) (some_target : 0 < E.submission.target)
    (place : WalletPlace L E.submission.target) where
  s : Submission
  s = E.submission

  K : Ledger
  K = ensure_wallet E.submission.target L

  en : Ensured L K E.submission.target
  unfolding K
  en = ensured L E.submission.target g wide some_target place

  fits_K : Fits K B
  fits_K = fits_ensured L K E.submission.target B en f

  pub fits_grant : Fits (grant E.submission L).after (grants E B)
  unfolding s K grant raise put_wallet put_head grants
  fits_grant =
      fits_make _ (grants E B) (wallet_count K) (head L GRANTED + s.amount) (escrow_count K) (receipt_count K) (get_or-set_other K.header GRANTED WALLETS _ 0 (omega arith))
      (get_or-set_same K.header GRANTED _ 0 (omega (arith, en.header))) (get_or-set_other K.header GRANTED ESCROWS _ 0 (omega arith))
      (get_or-set_other K.header GRANTED RECEIPTS _ 0 (omega arith))
      (acc_grant E K.wallets (wallet_count K) (head L GRANTED) B
      (subst (λ (x : ℕ). AccOf K.wallets (wallet_count K) x B) (en.others GRANTED (omega arith)) fits_K.acc) en.good.wallets_in en.found)
      fits_K.escs fits_K.recs

  -- the sender has the amount
  module _ (s_row : wallet_row L E.submission.signer < wallet_count L) (enough : E.submission.amount ≤ bal L.wallets (wallet_count L) E.submission.signer BALANCE) where
    enough_K : E.submission.amount ≤ bal K.wallets (wallet_count K) E.submission.signer BALANCE
    enough_K = subst (λ (x : ℕ). E.submission.amount ≤ x) (sym (en.same E.submission.signer BALANCE (lit< tt) refl)) enough

    pub fits_transfer : Fits (transfer E.submission L).after (transfers E B)
    unfolding K transfer raise lower put_wallet transfers
    fits_transfer = record {
      acc = acc_transfer E K.wallets (wallet_count K) (head K GRANTED) B fits_K.acc en.good.wallets_in (en.keeps E.submission.signer s_row) enough_K
          en.found;
      escs = fits_K.escs;
      recs = fits_K.recs;
    }

    pub fits_open : escrow_count L < rows_in L.edition.escrow L.escrows → E.word ≡ escrow_count L + 1
        → Fits (open_escrow E.submission L).after (opens_escrow E B)
    unfolding K open_escrow raise lower put_wallet new_escrow put_head opens_escrow
    fits_open room_e word_is =
        let m : ℕ = escrow_count K + 1 in
        fits_make _ (opens_escrow E B) (wallet_count K) (head K GRANTED) m (receipt_count K) (get_or-set_other K.header ESCROWS WALLETS m 0 (omega arith))
        (get_or-set_other K.header ESCROWS GRANTED m 0 (omega arith)) (get_or-set_same K.header ESCROWS m 0 (omega (arith, en.header)))
        (get_or-set_other K.header ESCROWS RECEIPTS m 0 (omega arith))
        (acc_open E K.wallets (wallet_count K) (head K GRANTED) B fits_K.acc en.good.wallets_in (en.keeps E.submission.signer s_row) enough_K)
        (escs_open E K.escrows K.edition.escrow (escrow_count K) B fits_K.escs en.good.wide
        (subst₃ (λ (e : Edition) (n : ℕ) (t : List ℕ). n < rows_in e.escrow t) (sym en.edition) (sym (en.others ESCROWS (omega arith))) (sym en.escrows) room_e)
        (omega (arith, word_is, en.others ESCROWS (omega arith))))
        fits_K.recs

pub fits_claim : (E : Said) (L : Ledger) (B : Book) → Fits L B → 8 ≤ length L.header → receipt_count L < rows_in RECEIPT_LEN L.receipts
    → E.word ≡ receipt_count L + 1 → Fits (claim E.submission L).after (makes_claim E B)
unfolding claim new_receipt put_head makes_claim
fits_claim E L B f wide place word_is =
    let m : ℕ = receipt_count L + 1 in
    fits_make _ (makes_claim E B) (wallet_count L) (head L GRANTED) (escrow_count L) m (get_or-set_other L.header RECEIPTS WALLETS m 0 (omega arith))
    (get_or-set_other L.header RECEIPTS GRANTED m 0 (omega arith)) (get_or-set_other L.header RECEIPTS ESCROWS m 0 (omega arith))
    (get_or-set_same L.header RECEIPTS m 0 (omega arith)) f.acc f.escs
    (recs_claim E L.receipts (receipt_count L) B f.recs place word_is)

-- ---- the operations that end and close

module _ (E : Said) (L : Ledger) (B : Book) (g : Good L) (f : Fits L B) where
  module _ (i< : E.submission.target - 1 < escrow_count L) (open_i : eqb (escrow L (E.submission.target - 1) ESCROW_STATE) IS_OPEN ≡ true) where
    pub fits_release : Fits (release E.submission L).after (releases E B)
    unfolding release releases
    fits_release = fits_end L B g f (E.submission.target - 1) i< (sym (f.escs.live _ i<) ∙ open_i) _ _ _ refl

    pub fits_refund : Fits (refund E.submission L).after (refunds E B)
    unfolding refund refunds
    fits_refund = fits_end L B g f (E.submission.target - 1) i< (sym (f.escs.live _ i<) ∙ open_i) _ _ _ refl

  pub fits_dispute : E.submission.target - 1 < receipt_count L → Fits (dispute E.submission L).after (disputes E B)
  unfolding dispute disputes
  fits_dispute i< = fits_close L B g f (E.submission.target - 1) i< _ _ _ refl

  -- an accept's word names the escrow that its receipt released
  pub fits_accepts : E.submission.target - 1 < receipt_count L → E.submission.now ≤ LAST_TIME_MS → E.word ≡ (accept E.submission L).word
      → Fits (accept E.submission L).after (accepts E B)
  unfolding accept accepts
  fits_accepts i< now_right word_is =
      let a = fits_accept L B g f (E.submission.target - 1) i< E.submission.now E.submission.signer now_right in
      let i : ℕ = E.submission.target - 1 in
      subst (λ (w : ℕ). Fits (accept E.submission L).after (cond (eqb w 0) (closes i B) (ends true (w - 1) (closes i B)))) (sym word_is)
      (subst (Fits (accept E.submission L).after) (sym a.named) a.fits)

  pub fits_sweeps : E.submission.now ≤ LAST_TIME_MS → Fits (sweep E.submission L).after (sweeps_due E B)
  unfolding sweep sweeps_due
  fits_sweeps now_right = fits_sweep L E.submission.now now_right B g f E.submission.amount

-- ---- the operations that move no credits and close nothing

pub fits_freeze : (s : Submission) (L : Ledger) (B : Book) → Fits L B → Fits (freeze s L).after B
unfolding freeze
fits_freeze s L B f =
    cond_case (λ (K : Ledger). Fits K B) (eqb s.target 0) (put_head SYSTEM_FROZEN (bit AUTO_OR_FREEZE s.flags) L) _
    (λ e. fits_head SYSTEM_FROZEN _ L B (omega arith) (omega arith) (omega arith) (omega arith) f)
    (λ e. fits_put_wallet L B _ FROZEN _ (lit< tt) (lit< tt) f)

pub fits_caps : (s : Submission) (L : Ledger) (B : Book) → Fits L B → Fits (caps s L).after B
unfolding caps
fits_caps s L B f = fits_put_wallet _ B _ DAILY_CAP _ (lit< tt) (lit< tt) (fits_put_wallet L B _ TX_CAP _ (lit< tt) (lit< tt) f)

pub fits_shut : (s : Submission) (L : Ledger) (B : Book) → Fits L B → Fits (close s L).after B
unfolding close
fits_shut s L B f = fits_put_wallet L B _ FROZEN _ (lit< tt) (lit< tt) f
