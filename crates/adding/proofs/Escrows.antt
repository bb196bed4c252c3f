-- The loop over the escrows: so far the sweep's own loop has spent this much, behind any receipts and whatever the tables are that are not lent;
-- and the five figures of a whole sweep.
use mathlib.Core.Path.{◌≡◌, refl, sym, ap, ◌∙◌, subst}
use mathlib.Core.List.{List, [], ◌∷◌}
use Prim.Native.Nat.{ℕ, ◌+◌, ◌-◌, ◌*◌, ◌<◌, ◌≤◌}
use native.Mathlib.Omega.{arith}
use lib.ListN.{get_or}
use Rattle.std.specs.Prelude.{Option, Some, None}
use Rattle.rules.specs.Limits.{MAX_AMOUNT_MICRO, ESCROWS, ESCROW_AMOUNT}
use Rattle.rules.specs.Table.{word, loop}
use Rattle.rules.specs.Ledger.{Ledger, ledger_of, escrow_count}
use Rattle.rules.specs.declared.Edition.{Edition}
use Rattle.rules.specs.Settle.{Sweep, sweep_escrow, swept_receipts, swept}
use Rattle.rules.proofs.Bools.{cond_case}
use Rattle.rules.proofs.Good.{amount_most}
use Rattle.rules.proofs.Adds.{figures}
use Rattle.sweeping.proofs.Turns.{loop_none, loop_next, loop_full, escrow_full}
use Rattle.adding.specs.Needs.{Expires}
use Rattle.adding.specs.Turns.{expires, expired_turn, Ended, Receipted}
use Rattle.adding.proofs.Counted.{rows_of, amount_of, one_row, Counted}
use Rattle.adding.proofs.Spent.{Spent, spent_start, spent_turn}

-- after `number` escrows, of which `rows` are closed, and `amount` expires
pub record SoFar (ed : Edition) (h e : List ℕ) (time limit rows amount number : ℕ) : Type 0 where
  pub written : number ≤ get_or h ESCROWS 0
  pub room : rows ≤ limit
  pub small : amount ≤ number * MAX_AMOUNT_MICRO
  pub spent : (w r j : List ℕ) (S : Sweep) (released : ℕ) → Receipted (ledger_of ed h w e r j) time limit released S
      → Spent (ledger_of ed h w e r j) time released number (limit - rows) amount (loop number (sweep_escrow time) S)

pub start : (ed : Edition) (h e : List ℕ) (time limit : ℕ) → SoFar ed h e time limit 0 0 0
start ed h e time limit = record {
  written = omega arith;
  room = omega arith;
  small = omega arith;
  spent = λ w r j S released a.
      let L : Ledger = ledger_of ed h w e r j in
      let z : limit ≡ limit - 0 = omega arith in
      subst (λ (n : ℕ). Spent L time released 0 n 0 (loop 0 (sweep_escrow time) S)) z
      (subst (Spent L time released 0 limit 0) (sym (loop_none (sweep_escrow time) S)) (spent_start L time released limit S a));
}

module _ (ed : Edition) (h e : List ℕ) (time : ℕ) (s : Expires ed h e time) where
  module _ (limit rows amount number : ℕ) (far : SoFar ed h e time limit rows amount number) where
    -- the next escrow, as the code has it: by its number, which is one more
    module _ (o : Option ℕ) (l : number < get_or h ESCROWS 0) (p : o ≡ expired_turn ed e time (number + 1 - 1)) where
      p' : o ≡ expired_turn ed e time number
      p' = let i : number + 1 - 1 ≡ number = omega arith in p ∙ ap (expired_turn ed e time) i

      turn_small : amount_of o ≤ MAX_AMOUNT_MICRO
      unfolding expired_turn
      turn_small =
          let L : Ledger = ledger_of ed h s.sweeps.wallets e s.receipts [] in
          subst (λ (t : Option ℕ). amount_of t ≤ MAX_AMOUNT_MICRO) (sym p')
          (cond_case (λ (t : Option ℕ). amount_of t ≤ MAX_AMOUNT_MICRO) (expires ed e time number) (Some (word e ed.escrow number ESCROW_AMOUNT)) None
          (λ _. amount_most L s.sweeps.sweeping.good number l) (λ _. omega arith))

      pub amount_small : amount + amount_of o ≤ (number + 1) * MAX_AMOUNT_MICRO
      amount_small = omega (arith, far.small, turn_small)

      pub next : (n m : ℕ) → rows < limit → Counted o rows amount n m → SoFar ed h e time limit n m (number + 1)
      next n m room c = record {
        written = omega arith;
        room = omega (arith, c.rows_so, one_row o);
        small = omega (arith, c.amount_so, amount_small);
        spent = λ w r j S released a.
            let L : Ledger = ledger_of ed h w e r j in
            let T : Sweep = loop number (sweep_escrow time) S in
            let z : limit - rows - rows_of o ≡ limit - n = omega (arith, c.rows_so) in
            let y : amount + amount_of o ≡ m = sym c.amount_so in
            subst (λ (k : ℕ). Spent L time released (number + 1) k m (loop (number + 1) (sweep_escrow time) S)) z
            (subst (λ (k : ℕ). Spent L time released (number + 1) (limit - rows - rows_of o) k (loop (number + 1) (sweep_escrow time) S)) y
            (subst (Spent L time released (number + 1) (limit - rows - rows_of o) (amount + amount_of o))
            (loop_next (sweep_escrow time) S T (sweep_escrow time number T) number number refl refl refl)
            (spent_turn L time s.sweeps.sweeping.now released number (limit - rows) amount T l (far.spent w r j S released a) o (omega arith) p')));
      }

    -- no escrow is left, or no room
    pub ended : get_or h ESCROWS 0 ≤ number
        → (w r j : List ℕ) (S : Sweep) (released : ℕ) → Receipted (ledger_of ed h w e r j) time limit released S
        → Ended (ledger_of ed h w e r j) released amount (loop (get_or h ESCROWS 0) (sweep_escrow time) S).tables
    ended l w r j S released a =
        let n : number ≡ get_or h ESCROWS 0 = omega (arith, far.written) in
        subst (λ (k : ℕ). Ended (ledger_of ed h w e r j) released amount (loop k (sweep_escrow time) S).tables) n (far.spent w r j S released a).ended

    pub full : limit ≤ rows
        → (w r j : List ℕ) (S : Sweep) (released : ℕ) → Receipted (ledger_of ed h w e r j) time limit released S
        → Ended (ledger_of ed h w e r j) released amount (loop (get_or h ESCROWS 0) (sweep_escrow time) S).tables
    full l w r j S released a =
        let b = far.spent w r j S released a in
        subst (λ (T : Sweep). Ended (ledger_of ed h w e r j) released amount T.tables)
        (loop_full (sweep_escrow time) (escrow_full time) S number (get_or h ESCROWS 0) (omega (arith, b.room)) far.written) b.ended

-- THE SWEEP: what its receipts release, and what expires behind them
pub swept_figures : (time limit released expired : ℕ) (L : Ledger)
    → Ended L released expired (loop (escrow_count L) (sweep_escrow time) (swept_receipts time limit L)).tables
    → 0 ∷ 0 ∷ released ∷ 0 ∷ expired ∷ [] ≡ figures 0 0 L (swept time limit L).tables
unfolding swept
swept_figures time limit released expired L a = rw (a.released, a.refunded, a.expired)
