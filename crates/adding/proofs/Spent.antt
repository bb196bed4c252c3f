-- The loop over the escrows, behind any receipts: so far the sweep's own loop has ended the escrows that were due in the old tables, and the
-- escrows that are left are due or not as they were there. A turn adds at most the largest amount, so that no sum wraps.
use mathlib.Core.Path.{◌≡◌, refl, sym, ap, ap₂, ◌∙◌, subst}
use mathlib.Core.List.{List}
use mathlib.Core.Bool.{Bool, true, false, cond, ◌&&◌}
use Prim.Native.Nat.{ℕ, ◌+◌, ◌-◌, ◌<◌, ◌≤◌}
use native.Mathlib.Nat.{le_refl}
use native.Mathlib.Omega.{arith}
use lib.ListN.{get_or}
use lib.Dec.{eqb, ltb}
use borrow.Author.Tests.{lt-ltb}
use Rattle.std.specs.Prelude.{Option, Some, None}
use Rattle.rules.specs.Limits.{LAST_TIME_MS, ESCROWS, ESCROW_AMOUNT, ESCROW_STATE, IS_OPEN, RELEASED, REFUNDED, EXPIRED}
use Rattle.rules.specs.Ledger.{Ledger, escrow, escrow_count}
use Rattle.rules.specs.Settle.{Sweep, one_more, due_escrow, close_due_escrow, sweep_escrow}
use Rattle.rules.specs.Report.{ended_as}
use Rattle.rules.proofs.Bools.{and_intro, and_fst, and_none_snd}
use Rattle.rules.proofs.Stays.{kept_then, row_kept, kept_due_escrow}
use Rattle.rules.proofs.SweepPlan.{escrow_frame}
use Rattle.rules.proofs.Onward.{Closes, onward_then, closes_due_escrow}
use Rattle.rules.proofs.Ended.{ended_then, ended_end}
use Rattle.adding.proofs.Counted.{rows_of, amount_of}
use Rattle.adding.specs.Turns.{expired_turn, Ended, Receipted}

-- `number` escrows of L are passed
pub record Spent (L : Ledger) (time r number n amount : ℕ) (S : Sweep) : Type 0 where
  pub room : S.room ≡ n
  pub due : (i : ℕ) → number ≤ i → due_escrow S.tables time i ≡ due_escrow L time i
  pub ended : Ended L r amount S.tables

pub spent_start : (L : Ledger) (time r n : ℕ) (S : Sweep) → Receipted L time n r S → Spent L time r 0 n 0 S
spent_start L time r n S a = record { room = a.room; due = λ i h. a.due i; ended = a.ended }

module _ (L : Ledger) (time : ℕ) (now_right : time ≤ LAST_TIME_MS) (r number n amount : ℕ) (S : Sweep)
    (l : number < escrow_count L) (a : Spent L time r number n amount S) where
  abbrev M : Ledger
  M = S.tables

  abbrev N : Ledger
  N = close_due_escrow time number M

  was : Ended L r amount M
  was = a.ended

  module _ (due : due_escrow M time number ≡ true) where
    open_here : eqb (escrow M number ESCROW_STATE) IS_OPEN ≡ true
    open_here = and_fst (eqb (escrow M number ESCROW_STATE) IS_OPEN) _ due

    closes : Closes M N
    closes = closes_due_escrow time number M was.kept.good.wide due

    count_so : escrow_count M ≡ escrow_count L
    count_so = ap (λ (t : List ℕ). get_or t ESCROWS 0) was.kept.header

    then : (st : ℕ) → eqb IS_OPEN st ≡ false → ended_as st L N ≡ ended_as st L M + cond (eqb EXPIRED st) (escrow L number ESCROW_AMOUNT) 0
    unfolding close_due_escrow
    then st other =
        ended_then st L M N other count_so was.onward closes.onward
        ∙ ap (λ (k : ℕ). ended_as st L M + k)
        (ended_end st EXPIRED time 0 number M other was.kept.good (row_kept ESCROWS was.kept l) open_here
        ∙ ap (λ (k : ℕ). cond (eqb EXPIRED st) k 0) (was.onward.amounts number l))

    ended_so : (y : ℕ) → y ≡ escrow L number ESCROW_AMOUNT → Ended L r (amount + y) N
    ended_so y e = record {
      kept = kept_then was.kept (kept_due_escrow L time now_right M was.kept.good number (row_kept ESCROWS was.kept l) due);
      onward = onward_then (omega (arith, count_so)) was.onward closes.onward;
      released = omega (arith, then RELEASED refl, was.released);
      refunded = omega (arith, then REFUNDED refl, was.refunded);
      expired = then EXPIRED refl ∙ ap₂ ◌+◌ was.expired (sym e);
    }

    spent_closed : (x y : ℕ) → x ≡ 1 → y ≡ escrow L number ESCROW_AMOUNT → Spent L time r (number + 1) (n - x) (amount + y) (one_more S N)
    spent_closed x y one e = record {
      room = omega (arith, a.room);
      due = λ i h. escrow_frame time M was.kept.good.wide number i (omega arith) ∙ a.due i (omega arith);
      ended = ended_so y e;
    }

  spent_passed : (x y : ℕ) → x ≡ 0 → y ≡ 0 → Spent L time r (number + 1) (n - x) (amount + y) S
  spent_passed x y none e = record {
    room = omega (arith, a.room);
    due = λ i h. a.due i (omega arith);
    ended = let z : amount ≡ amount + y = omega arith in subst (λ (k : ℕ). Ended L r k S.tables) z was;
  }

  -- THE TURN of a sweep that may still close a row
  pub spent_turn : (o : Option ℕ) → 0 < n → o ≡ expired_turn L.edition L.escrows time number
      → Spent L time r (number + 1) (n - rows_of o) (amount + amount_of o) (sweep_escrow time number S)
  unfolding sweep_escrow expired_turn
  spent_turn o some p = go (due_escrow L time number) refl p
    where
      T : Sweep → Type 0
      T = Spent L time r (number + 1) (n - rows_of o) (amount + amount_of o)

      go : (c : Bool) → due_escrow L time number ≡ c → o ≡ cond c (Some (escrow L number ESCROW_AMOUNT)) None
          → T (cond (ltb 0 S.room && due_escrow M time number) (one_more S N) S)
      go true t p =
          let due : due_escrow M time number ≡ true = a.due number (le_refl number) ∙ t in
          let here : (ltb 0 S.room && due_escrow M time number) ≡ true = and_intro _ _ (lt-ltb 0 S.room (omega (arith, a.room))) due in
          subst (λ (d : Bool). T (cond d (one_more S N) S)) (sym here) (spent_closed due (rows_of o) (amount_of o) (ap rows_of p) (ap amount_of p))
      go false t p =
          let here : (ltb 0 S.room && due_escrow M time number) ≡ false =
          and_none_snd (ltb 0 S.room) (due_escrow M time number) (a.due number (le_refl number) ∙ t) in
          subst (λ (d : Bool). T (cond d (one_more S N) S)) (sym here) (spent_passed (rows_of o) (amount_of o) (ap rows_of p) (ap amount_of p))
