-- A grant: the rows that the table of refusals leaves for it, and that its groups of checks answer by the first of them, in each case of what looking
-- up the recipient finds.
use mathlib.Core.Path.{◌≡◌, sym, ◌∙◌}
use mathlib.Core.List.{List, [], ◌∷◌}
use mathlib.Core.Bool.{Bool, not, cond, ◌&&◌, or-false}
use Prim.Native.Nat.{ℕ, ◌+◌}
use lib.ListN.{get_or}
use lib.Dec.{eqb, ltb}
use Rattle.rules.specs.Limits.{WALLET_LEN, JOURNAL_LEN, MAX_AMOUNT_MICRO, MAX_GRANTED_MICRO, GRANT, GRANTED, WALLETS, ENTRIES}
use Rattle.rules.specs.Ledger.{Ledger, ledger_of, head, wallet_count, entry_count, has_wallet, full}
use Rattle.rules.specs.Wallets.{look_up, is_closed}
use Rattle.rules.specs.Sound.{between}
use Rattle.rules.specs.Refusals.{Refusal, row, first, operation_refusals_by, operation_refusals}
use Rattle.rules.specs.declared.Edition.{Edition}
use Rattle.rules.specs.declared.Submission.{Submission}
use Rattle.rules.specs.declared.WalletState.{WalletState}
use Rattle.rules.proofs.Wallets.{look_case}
use Rattle.payments.proofs.Recipient.{by_recipient}

unfoldable pub of_grant : Ledger → Submission → List Refusal
of_grant L s =
    row 12 (not (between 1 MAX_AMOUNT_MICRO s.amount))
    ∷ row 15 (eqb s.target 0)
    ∷ row 43 (is_closed L s.target)
    ∷ row 36 (ltb MAX_GRANTED_MICRO (head L GRANTED + s.amount))
    ∷ row 37 (not (has_wallet L s.target) && full WALLET_LEN L.wallets (wallet_count L))
    ∷ row 40 (full JOURNAL_LEN L.journal (entry_count L))
    ∷ []

pub grant_rows : (L : Ledger) (s : Submission) → s.op ≡ GRANT → first (operation_refusals L s) ≡ first (of_grant L s)
unfolding operation_refusals_by of_grant
grant_rows L s o = simp (o, or-false)

-- the checks behind its recipient's, who needs a row or not
abbrev pub granting : List ℕ → List ℕ → List ℕ → Submission → Bool → ℕ
granting h w j s needs =
    cond (ltb MAX_GRANTED_MICRO (get_or h GRANTED 0 + s.amount)) 36
    (cond (needs && full WALLET_LEN w (get_or h WALLETS 0)) 37
    (cond (full JOURNAL_LEN j (get_or h ENTRIES 0)) 40 0))

pub grant_by :
    (ed : Edition) (h w e r j : List ℕ) (s : Submission) (x : ℕ)
    → s.op ≡ GRANT
    → x ≡ by_recipient (granting h w j s) (look_up w (get_or h WALLETS 0) s.target)
    → cond (not (between 1 MAX_AMOUNT_MICRO s.amount)) 12 (cond (eqb s.target 0) 15 x) ≡ first (operation_refusals (ledger_of ed h w e r j) s)
unfolding of_grant
grant_by ed h w e r j s x o c = picks ∙ sym (grant_rows _ s o)
  where
    L : Ledger
    L = ledger_of ed h w e r j

    picks : cond (not (between 1 MAX_AMOUNT_MICRO s.amount)) 12 (cond (eqb s.target 0) 15 x) ≡ first (of_grant L s)
    picks =
        look_case
        (λ (found : WalletState).
        x ≡ by_recipient (granting h w j s) found
        → cond (not (between 1 MAX_AMOUNT_MICRO s.amount)) 12 (cond (eqb s.target 0) 15 x) ≡ first (of_grant L s))
        w (get_or h WALLETS 0) s.target
        (λ m d. rw (d, m)) (λ t n d. rw (d, t, n)) (λ t n d. rw (d, t, n)) c
