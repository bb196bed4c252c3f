-- A sweep, a freeze, new caps and a close: the rows that the table of refusals leaves for each, and that its checks answer by the first of them, in
-- each case of what looking up the target finds.
use mathlib.Core.Path.{◌≡◌, refl, sym, ◌∙◌}
use mathlib.Core.List.{List, [], ◌∷◌}
use mathlib.Core.Bool.{Bool, not, cond, ◌&&◌, ◌||◌, or-false, and-true, and-false}
use Prim.Native.Nat.{ℕ, ◌+◌, ◌-◌}
use lib.ListN.{get_or}
use lib.Dec.{eqb, ltb}
use Rattle.rules.specs.Limits.{WALLET_LEN, JOURNAL_LEN, MAX_AMOUNT_MICRO, MAX_SWEEP_ROWS, SWEEP, FREEZE, CAPS, CLOSE, WALLETS, ESCROWS, ENTRIES, BALANCE, LOCKED}
use Rattle.rules.specs.Table.{word}
use Rattle.rules.specs.Ledger.{Ledger, ledger_of, row_of, entry_count, has_wallet, full}
use Rattle.rules.specs.Wallets.{look_up, is_closed, open_to}
use Rattle.rules.specs.Sound.{between}
use Rattle.rules.specs.Refusals.{Refusal, row, first, not_empty, operation_refusals_by, operation_refusals}
use Rattle.rules.specs.declared.Edition.{Edition}
use Rattle.rules.specs.declared.Submission.{Submission}
use Rattle.rules.specs.declared.WalletNumber.{WalletNumber}
use Rattle.rules.specs.declared.WalletState.{WalletState}
use Rattle.rules.specs.declared.WalletState.TheVariants.{Missing, Live, Closed}
use Rattle.rules.proofs.Wallets.{look_case}
use Rattle.rows.proofs.Found.{row_found}

unfoldable pub of_sweep : Submission → List Refusal
of_sweep s = row 12 (not (between 1 MAX_SWEEP_ROWS s.amount)) ∷ []

pub sweep_rows : (L : Ledger) (s : Submission) → s.op ≡ SWEEP → first (operation_refusals L s) ≡ first (of_sweep s)
unfolding operation_refusals_by of_sweep
sweep_rows L s o = simp (o, or-false)

unfoldable pub of_freeze : Ledger → Submission → List Refusal
of_freeze L s =
    row 16 (not (eqb s.target 0) && not (has_wallet L s.target))
    ∷ row 43 (is_closed L s.target)
    ∷ row 40 (full JOURNAL_LEN L.journal (entry_count L))
    ∷ []

pub freeze_rows : (L : Ledger) (s : Submission) → s.op ≡ FREEZE → first (operation_refusals L s) ≡ first (of_freeze L s)
unfolding operation_refusals_by of_freeze
freeze_rows L s o = simp (o, or-false)

unfoldable pub of_caps : Ledger → Submission → List Refusal
of_caps L s =
    row 12 (ltb MAX_AMOUNT_MICRO s.amount || ltb MAX_AMOUNT_MICRO s.link)
    ∷ row 16 (not (has_wallet L s.target))
    ∷ row 43 (is_closed L s.target)
    ∷ row 40 (full JOURNAL_LEN L.journal (entry_count L))
    ∷ []

pub caps_rows : (L : Ledger) (s : Submission) → s.op ≡ CAPS → first (operation_refusals L s) ≡ first (of_caps L s)
unfolding operation_refusals_by of_caps
caps_rows L s o = simp o

unfoldable pub of_close : Ledger → Submission → List Refusal
of_close L s =
    row 16 (not (has_wallet L s.target))
    ∷ row 43 (is_closed L s.target)
    ∷ row 42 (not_empty L s.target)
    ∷ row 40 (full JOURNAL_LEN L.journal (entry_count L))
    ∷ []

pub close_rows : (L : Ledger) (s : Submission) → s.op ≡ CLOSE → first (operation_refusals L s) ≡ first (of_close L s)
unfolding operation_refusals_by of_close
close_rows L s o = simp o

pub sweep_by : (L : Ledger) (s : Submission) → s.op ≡ SWEEP → cond (not (between 1 MAX_SWEEP_ROWS s.amount)) 12 0 ≡ first (operation_refusals L s)
unfolding of_sweep
sweep_by L s o = sym (sweep_rows L s o)

-- what the target's wallet decides: closed is 43
abbrev pub by_target : ℕ → (WalletNumber → ℕ) → WalletState → ℕ
by_target missing live Missing = missing
by_target missing live (Live k) = live k
by_target missing live (Closed k) = 43

-- check 40, of n rows
abbrev pub room : List ℕ → List ℕ → ℕ
room h j = cond (full JOURNAL_LEN j (get_or h ENTRIES 0)) 40 0

abbrev pub freezing : List ℕ → List ℕ → Submission → WalletState → ℕ
freezing h j s = by_target (cond (not (eqb s.target 0)) 16 (room h j)) (λ k. room h j)

pub freeze_by :
    (ed : Edition) (h w e r j : List ℕ) (s : Submission) (x : ℕ)
    → s.op ≡ FREEZE
    → x ≡ freezing h j s (look_up w (get_or h WALLETS 0) s.target)
    → x ≡ first (operation_refusals (ledger_of ed h w e r j) s)
unfolding of_freeze
freeze_by ed h w e r j s x o c = picks ∙ sym (freeze_rows _ s o)
  where
    picks : x ≡ first (of_freeze (ledger_of ed h w e r j) s)
    picks =
        look_case (λ (found : WalletState). x ≡ freezing h j s found → x ≡ first (of_freeze (ledger_of ed h w e r j) s)) w (get_or h WALLETS 0) s.target
        (λ m d. d ∙ rw (m, and-true (not (eqb s.target 0)))) (λ t n d. d ∙ rw (t, n, and-false (not (eqb s.target 0))))
        (λ t n d. d ∙ rw (t, n, and-false (not (eqb s.target 0)))) c

abbrev pub capping : List ℕ → List ℕ → WalletState → ℕ
capping h j = by_target 16 (λ k. room h j)

pub caps_by :
    (ed : Edition) (h w e r j : List ℕ) (s : Submission) (x : ℕ)
    → s.op ≡ CAPS
    → x ≡ capping h j (look_up w (get_or h WALLETS 0) s.target)
    → cond (ltb MAX_AMOUNT_MICRO s.amount || ltb MAX_AMOUNT_MICRO s.link) 12 x ≡ first (operation_refusals (ledger_of ed h w e r j) s)
unfolding of_caps
caps_by ed h w e r j s x o c = picks ∙ sym (caps_rows _ s o)
  where
    P : WalletState → Type 0
    P found =
        x ≡ capping h j found
        → cond (ltb MAX_AMOUNT_MICRO s.amount || ltb MAX_AMOUNT_MICRO s.link) 12 x ≡ first (of_caps (ledger_of ed h w e r j) s)

    picks : cond (ltb MAX_AMOUNT_MICRO s.amount || ltb MAX_AMOUNT_MICRO s.link) 12 x ≡ first (of_caps (ledger_of ed h w e r j) s)
    picks = look_case P w (get_or h WALLETS 0) s.target (λ m d. rw (d, m)) (λ t n d. rw (d, t, n)) (λ t n d. rw (d, t, n)) c

-- the wallet in row i has balance, locked credits or an open escrow to its id
abbrev pub used : List ℕ → ℕ → List ℕ → ℕ → ℕ → ℕ → Bool
used w len e n id i = ltb 0 (word w WALLET_LEN i BALANCE) || (ltb 0 (word w WALLET_LEN i LOCKED) || open_to len e n id)

abbrev pub closing : Edition → List ℕ → List ℕ → List ℕ → List ℕ → Submission → WalletState → ℕ
closing ed h w e j s = by_target 16 (λ k. cond (used w ed.escrow e (get_or h ESCROWS 0) s.target (k.0 - 1)) 42 (room h j))

pub close_by :
    (ed : Edition) (h w e r j : List ℕ) (s : Submission) (x : ℕ)
    → s.op ≡ CLOSE
    → x ≡ closing ed h w e j s (look_up w (get_or h WALLETS 0) s.target)
    → x ≡ first (operation_refusals (ledger_of ed h w e r j) s)
unfolding of_close
close_by ed h w e r j s x o c = picks ∙ sym (close_rows _ s o)
  where
    i : ℕ
    i = row_of w (get_or h WALLETS 0) s.target

    picks : x ≡ first (of_close (ledger_of ed h w e r j) s)
    picks =
        look_case (λ (found : WalletState). x ≡ closing ed h w e j s found → x ≡ first (of_close (ledger_of ed h w e r j) s)) w (get_or h WALLETS 0) s.target
        (λ m d. d ∙ rw m) (λ t n d. d ∙ rw (t, n, row_found (i + 1) i refl)) (λ t n d. d ∙ rw (t, n)) c
