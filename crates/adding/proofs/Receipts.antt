-- The loop over the receipts: so far the sweep's own loop is laid out, whatever the wallets and the journal are that are not lent. A turn adds at
-- most the largest amount, so that no sum wraps.
use mathlib.Core.Path.{◌≡◌, refl, sym, ap, ◌∙◌, subst}
use mathlib.Core.List.{List, []}
use mathlib.Core.Bool.{Bool, true, not}
use Prim.Native.Nat.{ℕ, ◌+◌, ◌-◌, ◌*◌, ◌<◌, ◌≤◌}
use native.Mathlib.Omega.{arith}
use lib.ListN.{get_or, length, set, length-set}
use lib.Dec.{eqb}
use borrow.Author.Tests.{eqb-false}
use Rattle.std.specs.Prelude.{Option, Some, None}
use Rattle.rules.specs.Limits.{MAX_ESCROWS, MAX_AMOUNT_MICRO, RECEIPTS, ESCROW_AMOUNT, RECEIPT_LINK, AUTO_ACCEPT}
use Rattle.rules.specs.Table.{loop}
use Rattle.rules.specs.Ledger.{Ledger, ledger_of, escrow, receipt}
use Rattle.rules.specs.declared.Edition.{Edition}
use Rattle.rules.specs.Settle.{Sweep, sweep_start, sweep_receipt, swept_receipts}
use Rattle.rules.proofs.Bools.{and_fst, and_snd, not_true_false, cond_case}
use Rattle.rules.proofs.Good.{Good, amount_most}
use Rattle.rules.proofs.Stays.{link_row}
use Rattle.sweeping.proofs.Turns.{loop_none, loop_next, loop_full, receipt_full}
use Rattle.adding.specs.Needs.{Sweeps}
use Rattle.adding.specs.Turns.{linked, frees_now, freed_now, marked_now, closes, closed_turn, closed_marks, Unmarked, Receipted}
use Rattle.adding.proofs.Counted.{rows_of, amount_of, one_row, Counted}
use Rattle.adding.proofs.Laid.{Laid, laid_start, laid_turn}

-- after `number` receipts, of which `rows` are closed, and `amount` is released
pub record SoFar (ed : Edition) (h e r : List ℕ) (time limit rows amount number : ℕ) (marks : List Bool) : Type 0 where
  pub written : number ≤ get_or h RECEIPTS 0
  pub room : rows ≤ limit
  pub small : amount ≤ number * MAX_AMOUNT_MICRO
  pub places : length marks ≡ MAX_ESCROWS
  pub laid : (w j : List ℕ) → Good (ledger_of ed h w e r j)
      → Laid (ledger_of ed h w e r j) time marks number (limit - rows) amount (loop number (sweep_receipt time) (sweep_start limit (ledger_of ed h w e r j)))

pub start : (ed : Edition) (h e r : List ℕ) (time limit : ℕ) (marks : List Bool) → Unmarked marks → SoFar ed h e r time limit 0 0 0 marks
start ed h e r time limit marks u = record {
  written = omega arith;
  room = omega arith;
  small = omega arith;
  places = u.places;
  laid = λ w j g.
      let L : Ledger = ledger_of ed h w e r j in
      let z : limit ≡ limit - 0 = omega arith in
      subst (λ (n : ℕ). Laid L time marks 0 n 0 (loop 0 (sweep_receipt time) (sweep_start limit L))) z
      (subst (Laid L time marks 0 limit 0) (sym (loop_none (sweep_receipt time) (sweep_start limit L))) (laid_start L time limit marks g u.none));
}

module _ (ed : Edition) (h e r : List ℕ) (time : ℕ) (s : Sweeps ed h e r time) where
  abbrev L₀ : Ledger
  L₀ = ledger_of ed h s.wallets e r []

  -- what a receipt releases is the amount of an escrow
  freed_small : (marks : List Bool) (number : ℕ) → number < get_or h RECEIPTS 0 → freed_now ed e r marks time number ≤ MAX_AMOUNT_MICRO
  unfolding freed_now
  freed_small marks number l =
      let n : ℕ = receipt L₀ number RECEIPT_LINK in
      cond_case (λ (x : ℕ). x ≤ MAX_AMOUNT_MICRO) (frees_now ed e r marks time number) (escrow L₀ (linked r number) ESCROW_AMOUNT) 0
      (λ t. amount_most L₀ s.sweeping.good (n - 1)
      (link_row L₀ s.sweeping.good number l
      (eqb-false n 0 (not_true_false (eqb n 0) (and_fst (not (eqb n 0)) _ (and_snd (eqb (receipt L₀ number AUTO_ACCEPT) 1) _ t))))))
      (λ t. omega arith)

  turn_small : (marks : List Bool) (number : ℕ) (o : Option ℕ) → number < get_or h RECEIPTS 0 → o ≡ closed_turn ed e r marks time number
      → amount_of o ≤ MAX_AMOUNT_MICRO
  unfolding closed_turn
  turn_small marks number o l q =
      subst (λ (t : Option ℕ). amount_of t ≤ MAX_AMOUNT_MICRO) (sym q)
      (cond_case (λ (t : Option ℕ). amount_of t ≤ MAX_AMOUNT_MICRO) (closes r time number) (Some (freed_now ed e r marks time number)) None
      (λ t. freed_small marks number l) (λ t. omega arith))

  -- the marks have their places still
  marks_stay : (marks marks₁ : List Bool) (number : ℕ) → marks₁ ≡ closed_marks ed e r marks time number → length marks₁ ≡ length marks
  unfolding closed_marks marked_now
  marks_stay marks marks₁ number m =
      ap length m
      ∙ cond_case (λ (t : List Bool). length t ≡ length marks) (closes r time number) (marked_now ed e r marks time number) marks
      (λ a. cond_case (λ (t : List Bool). length t ≡ length marks) (frees_now ed e r marks time number) (set marks (linked r number) true) marks
      (λ b. length-set marks (linked r number) true) (λ b. refl))
      (λ a. refl)

  module _ (limit rows amount number : ℕ) (marks : List Bool) (far : SoFar ed h e r time limit rows amount number marks) where
    -- the next receipt, as the code has it: by its number, which is one more
    module _ (marks₁ : List Bool) (o : Option ℕ) (l : number < get_or h RECEIPTS 0) (p : o ≡ closed_turn ed e r marks time (number + 1 - 1)) where
      i : number + 1 - 1 ≡ number
      i = omega arith

      p' : o ≡ closed_turn ed e r marks time number
      p' = p ∙ ap (closed_turn ed e r marks time) i

      pub amount_small : amount + amount_of o ≤ (number + 1) * MAX_AMOUNT_MICRO
      amount_small = omega (arith, far.small, turn_small marks number o l p')

      pub next : (n m : ℕ) → rows < limit → marks₁ ≡ closed_marks ed e r marks time (number + 1 - 1) → Counted o rows amount n m
          → SoFar ed h e r time limit n m (number + 1) marks₁
      next n m room t c =
          let t' : marks₁ ≡ closed_marks ed e r marks time number = t ∙ ap (closed_marks ed e r marks time) i in
          record {
            written = omega arith;
            room = omega (arith, c.rows_so, one_row o);
            small = omega (arith, c.amount_so, amount_small);
            places = marks_stay marks marks₁ number t' ∙ far.places;
            laid = λ w j g.
                let L : Ledger = ledger_of ed h w e r j in
                let S : Sweep = loop number (sweep_receipt time) (sweep_start limit L) in
                let z : limit - rows - rows_of o ≡ limit - n = omega (arith, c.rows_so) in
                let y : amount + amount_of o ≡ m = sym c.amount_so in
                subst (λ (k : ℕ). Laid L time marks₁ (number + 1) k m (loop (number + 1) (sweep_receipt time) (sweep_start limit L))) z
                (subst (λ (k : ℕ). Laid L time marks₁ (number + 1) (limit - rows - rows_of o) k (loop (number + 1) (sweep_receipt time) (sweep_start limit L))) y
                (subst (Laid L time marks₁ (number + 1) (limit - rows - rows_of o) (amount + amount_of o))
                (loop_next (sweep_receipt time) (sweep_start limit L) S (sweep_receipt time number S) number number refl refl refl)
                (laid_turn L time s.sweeping.now marks number (limit - rows) amount S g (omega (arith, s.sweeping.small.escrows, far.places)) l (far.laid w j g) marks₁ o
                (omega arith) p' t')));
          }

    -- no receipt is left, or no room
    pub ended : get_or h RECEIPTS 0 ≤ number
        → (w j : List ℕ) → Good (ledger_of ed h w e r j) → Receipted (ledger_of ed h w e r j) time (limit - rows) amount (swept_receipts time limit (ledger_of ed h w e r j))
    unfolding swept_receipts
    ended l w j g =
        let L : Ledger = ledger_of ed h w e r j in
        let n : number ≡ get_or h RECEIPTS 0 = omega (arith, far.written) in
        subst (λ (k : ℕ). Receipted L time (limit - rows) amount (loop k (sweep_receipt time) (sweep_start limit L))) n (far.laid w j g).receipted

    pub full : limit ≤ rows
        → (w j : List ℕ) → Good (ledger_of ed h w e r j) → Receipted (ledger_of ed h w e r j) time (limit - rows) amount (swept_receipts time limit (ledger_of ed h w e r j))
    unfolding swept_receipts
    full l w j g =
        let L : Ledger = ledger_of ed h w e r j in
        let a = (far.laid w j g).receipted in
        subst (Receipted L time (limit - rows) amount)
        (loop_full (sweep_receipt time) (receipt_full time) (sweep_start limit L) number (get_or h RECEIPTS 0) (omega (arith, a.room)) far.written) a
