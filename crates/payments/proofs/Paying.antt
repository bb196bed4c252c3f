-- A transfer or an open: the rows that the table of refusals leaves for it, and that its groups of checks answer by the first of them, in each case of
-- what looking up the sender and the recipient finds.
use mathlib.Core.Path.{◌≡◌, refl, sym, ◌∙◌}
use mathlib.Core.List.{List, [], ◌∷◌}
use mathlib.Core.Logic.{◌⊎◌, ⊎_elim}
use mathlib.Core.Bool.{Bool, not, cond, ◌&&◌, ◌||◌, or-false}
use Prim.Native.Nat.{ℕ, ◌+◌, ◌-◌}
use lib.ListN.{get_or}
use lib.Dec.{eqb, ltb, leb}
use borrow.Author.Tests.{eqb-true}
use Rattle.rules.specs.Limits.{WALLET_LEN, JOURNAL_LEN, MAX_AMOUNT_MICRO, MAX_HOLD_MS, TRANSFER, OPEN}
use Rattle.rules.specs.Limits.{WALLETS, ESCROWS, ENTRIES, BALANCE, FROZEN, TX_CAP, DAILY_CAP, IS_FROZEN, IS_CLOSED}
use Rattle.rules.specs.Table.{word}
use Rattle.rules.specs.Ledger.{Ledger, ledger_of, row_of, wallet_count, escrow_count, entry_count, has_wallet, wallet_of, full}
use Rattle.rules.specs.Wallets.{look_up, is_closed}
use Rattle.rules.specs.Sound.{between}
use Rattle.rules.specs.Refusals.{Refusal, row, first, counted_of, counted, sender, operation_refusals_by, operation_refusals}
use Rattle.rules.specs.declared.Edition.{Edition}
use Rattle.rules.specs.declared.Submission.{Submission}
use Rattle.rules.specs.declared.WalletState.{WalletState}
use Rattle.rules.specs.declared.WalletState.TheVariants.{Missing, Live, Closed}
use Rattle.rules.proofs.Wallets.{look_case}
use Rattle.rows.proofs.Found.{row_found}
use Rattle.payments.specs.Sending.{sending_refusals}
use Rattle.payments.proofs.Recipient.{by_recipient}

unfoldable pub of_paying : Ledger → Submission → List Refusal
of_paying L s =
    row 12 (not (between 1 MAX_AMOUNT_MICRO s.amount))
    ∷ row 13 (not (has_wallet L s.signer))
    ∷ row 14 (sender L s (eqb (wallet_of L s.signer FROZEN) IS_FROZEN))
    ∷ row 15 (eqb s.target 0 || eqb s.target s.signer)
    ∷ row 43 (is_closed L s.signer || is_closed L s.target)
    ∷ row 17 (sender L s (ltb (wallet_of L s.signer BALANCE) s.amount))
    ∷ row 18 (sender L s (ltb (wallet_of L s.signer TX_CAP) s.amount))
    ∷ row 19 (sender L s (ltb (wallet_of L s.signer DAILY_CAP) (s.amount + counted L s.signer s.now)))
    ∷ row 20 (eqb s.op OPEN && leb s.until s.now)
    ∷ row 21 (eqb s.op OPEN && ltb (s.now + MAX_HOLD_MS) s.until)
    ∷ row 37 (not (has_wallet L s.target) && full WALLET_LEN L.wallets (wallet_count L))
    ∷ row 38 (eqb s.op OPEN && full L.edition.escrow L.escrows (escrow_count L))
    ∷ row 40 (full JOURNAL_LEN L.journal (entry_count L))
    ∷ []

pub transfer_rows : (L : Ledger) (s : Submission) → s.op ≡ TRANSFER → first (operation_refusals L s) ≡ first (of_paying L s)
unfolding operation_refusals_by of_paying
transfer_rows L s o = simp (o, or-false)

pub open_rows : (L : Ledger) (s : Submission) → s.op ≡ OPEN → first (operation_refusals L s) ≡ first (of_paying L s)
unfolding operation_refusals_by of_paying
open_rows L s o = simp (o, or-false)

-- ---- a live sender: its recipient, and its limits

-- the checks behind its recipient's, where i is its row, and the recipient needs a row or not
abbrev pub limits : Edition → List ℕ → List ℕ → List ℕ → List ℕ → Submission → ℕ → Bool → ℕ
limits ed h w e j s i needs =
    cond (ltb (word w WALLET_LEN i BALANCE) s.amount) 17
    (cond (ltb (word w WALLET_LEN i TX_CAP) s.amount) 18
    (cond (ltb (word w WALLET_LEN i DAILY_CAP) (s.amount + counted_of j (get_or h ENTRIES 0) s.signer s.now)) 19
    (cond (eqb s.op OPEN && leb s.until s.now) 20
    (cond (eqb s.op OPEN && ltb (s.now + MAX_HOLD_MS) s.until) 21
    (cond (needs && full WALLET_LEN w (get_or h WALLETS 0)) 37
    (cond (eqb s.op OPEN && full ed.escrow e (get_or h ESCROWS 0)) 38
    (cond (full JOURNAL_LEN j (get_or h ENTRIES 0)) 40 0)))))))

sending_rows : (ed : Edition) (h w e r j : List ℕ) (s : Submission)
    → first (sending_refusals (ledger_of ed h w e r j) s)
    ≡ cond (is_closed (ledger_of ed h w e r j) s.target) 43
    (limits ed h w e j s (row_of w (get_or h WALLETS 0) s.signer) (not (has_wallet (ledger_of ed h w e r j) s.target)))
unfolding sending_refusals counted
sending_rows ed h w e r j s = refl

pub sending_by :
    (ed : Edition) (h w e r j : List ℕ) (s : Submission) (from x : ℕ)
    → from ≡ row_of w (get_or h WALLETS 0) s.signer + 1
    → x ≡ by_recipient (limits ed h w e j s (from - 1)) (look_up w (get_or h WALLETS 0) s.target)
    → x ≡ first (sending_refusals (ledger_of ed h w e r j) s)
sending_by ed h w e r j s from x b c =
    look_case (λ (found : WalletState). x ≡ by_recipient (limits ed h w e j s (from - 1)) found → x ≡ first (sending_refusals (ledger_of ed h w e r j) s))
    w (get_or h WALLETS 0) s.target
    (λ n d. d ∙ rw (at, sending_rows ed h w e r j s, n))
    (λ t n d. d ∙ rw (at, sending_rows ed h w e r j s, t, n))
    (λ t n d. d ∙ rw (sending_rows ed h w e r j s, t, n))
    c
  where
    at : from - 1 ≡ row_of w (get_or h WALLETS 0) s.signer
    at = row_found from _ b

-- ---- the sender

-- what the sender's wallet decides: missing is 13; frozen is 14, and then a live one may pay; closed is 43, behind 15
abbrev pub by_sender : List ℕ → Bool → ℕ → WalletState → ℕ
by_sender w invalid rest Missing = 13
by_sender w invalid rest (Live k) = cond (eqb (word w WALLET_LEN (k.0 - 1) FROZEN) IS_FROZEN) 14 (cond invalid 15 rest)
by_sender w invalid rest (Closed k) = cond invalid 15 43

pub paying_by :
    (ed : Edition) (h w e r j : List ℕ) (s : Submission) (x : ℕ)
    → (s.op ≡ TRANSFER) ⊎ (s.op ≡ OPEN)
    → x
    ≡ by_sender w (eqb s.target 0 || eqb s.target s.signer) (first (sending_refusals (ledger_of ed h w e r j) s)) (look_up w (get_or h WALLETS 0) s.signer)
    → cond (not (between 1 MAX_AMOUNT_MICRO s.amount)) 12 x ≡ first (operation_refusals (ledger_of ed h w e r j) s)
unfolding of_paying sending_refusals
paying_by ed h w e r j s x o c = picks ∙ sym (⊎_elim (transfer_rows _ s) (open_rows _ s) o)
  where
    L : Ledger
    L = ledger_of ed h w e r j

    n : ℕ
    n = get_or h WALLETS 0

    by : WalletState → ℕ
    by = by_sender w (eqb s.target 0 || eqb s.target s.signer) (first (sending_refusals L s))

    picks : cond (not (between 1 MAX_AMOUNT_MICRO s.amount)) 12 x ≡ first (of_paying L s)
    picks =
        look_case (λ (found : WalletState). x ≡ by found → cond (not (between 1 MAX_AMOUNT_MICRO s.amount)) 12 x ≡ first (of_paying L s)) w n s.signer
        (λ m d. rw (d, m))
        (λ t o d. let at = row_found (row_of w n s.signer + 1) (row_of w n s.signer) refl in rw (d, t, o) cc)
        (λ t o d. let closed = eqb-true (word w WALLET_LEN (row_of w n s.signer) FROZEN) IS_CLOSED o in rw (d, t, closed) cc)
        c
