-- The operation by its number, and the whole of settling from its parts.
use mathlib.Core.Path.{◌≡◌, sym, ap, ◌∙◌, subst}
use mathlib.Core.List.{List}
use Prim.Native.Nat.{ℕ, ◌+◌, ◌-◌, ◌<◌, ◌≤◌}
use native.Mathlib.Omega.{arith}
use lib.ListN.{length, get_or, set}
use borrow.Author.Tests.{eq-eqb, ne_eqb}
use Rattle.rules.specs.Limits.{JOURNAL_LEN, MAX_ENTRIES, CLOCK, ENTRIES, SWEEP}
use Rattle.rules.specs.Table.{put_row}
use Rattle.rules.specs.Ledger.{Ledger, ledger_of, set_header, set_journal, put_head, new_entry}
use Rattle.rules.specs.Settle.{Done, done, operations, idle, operate_by, operate, entry_of, enter, settle_by, settle}
use Rattle.rules.specs.declared.Edition.{Edition}
use Rattle.rules.specs.declared.Submission.{Submission}
use Rattle.rules.proofs.Keeps.{Keeps, keeps_before}
use Rattle.rules.proofs.UpTo.{up_to_receipts}
use Rattle.settling.specs.Needs.{Settles}
use Rattle.settling.proofs.Facts.{small, entries_small}

-- what the operation of number k leaves
pub operated : (k : ℕ) (s : Submission) (L : Ledger) (d : Done) → s.op ≡ k → d ≡ get_or operations (k - 1) idle s L → d ≡ operate s L
unfolding operate_by
operated k s L d o x = x ∙ ap (λ (n : ℕ). get_or operations (n - 1) idle s L) (sym o)

-- a sweep adds no row, any other operation one
pub entered_none :
    (K : Ledger) (h j : List ℕ) (s : Submission) (word : ℕ) → s.op ≡ SWEEP
    → set_journal j (set_header h K) ≡ enter s word (set_journal j (set_header h K))
unfolding enter
entered_none K h j s word o = rw (eq-eqb _ _ o)

pub entered :
    (K : Ledger) (h j h₁ j₁ : List ℕ) (s : Submission) (word : ℕ)
    → (s.op ≡ SWEEP → ⊥)
    → h₁ ≡ set h ENTRIES (get_or h ENTRIES 0 + 1)
    → j₁ ≡ put_row j JOURNAL_LEN (get_or h ENTRIES 0) (entry_of s word)
    → set_journal j₁ (set_header h₁ K) ≡ enter s word (set_journal j (set_header h K))
unfolding enter new_entry put_head
entered K h j h₁ j₁ s word o x y = rw (ne_eqb _ _ o, x, y)

module _ (ed : Edition) (h w e r j h₁ w₁ e₁ r₁ : List ℕ) (s : Submission) (word : ℕ) (p : Settles (ledger_of ed h w e r j) s)
    (q : (K : Ledger) → done word (up_to_receipts K ed h₁ w₁ e₁ r₁) ≡ operate s (up_to_receipts K ed h w e r)) where
  -- the operation has left the journal's count and the header's length
  kept : Keeps (ledger_of ed h w e r j) (ledger_of ed (set h₁ CLOCK s.now) w₁ e₁ r₁ j)
  unfolding put_head
  kept = subst (λ (d : Done). Keeps (ledger_of ed h w e r j) (put_head CLOCK s.now d.after)) (sym (q (ledger_of ed h w e r j))) (keeps_before s (ledger_of ed h w e r j))

  pub can_enter : (ENTRIES < length (set h₁ CLOCK s.now)) × (get_or (set h₁ CLOCK s.now) ENTRIES 0 ≤ MAX_ENTRIES)
  can_enter = (
    omega (arith, kept.lengths.header, (small ed h w e r j s p).whole),
    omega (arith, kept.count, entries_small ed h w e r j s p),
  )

  pub header_kept : (h₂ : List ℕ) → length h₂ ≡ length (set h₁ CLOCK s.now) → length h₂ ≡ length h
  header_kept h₂ x = x ∙ kept.lengths.header

  pub settled_by :
      (h₂ j₂ : List ℕ)
      → ((K : Ledger) → set_journal j₂ (set_header h₂ K) ≡ enter s word (set_journal j (set_header (set h₁ CLOCK s.now) K)))
      → done word (ledger_of ed h₂ w₁ e₁ r₁ j₂) ≡ settle s (ledger_of ed h w e r j)
  unfolding settle_by put_head
  settled_by h₂ j₂ x = rw (← q (ledger_of ed h w e r j), x (ledger_of ed h w₁ e₁ r₁ j))
