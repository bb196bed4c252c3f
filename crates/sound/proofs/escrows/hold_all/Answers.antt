-- `escrows::hold_all` meets its contract. The loop's invariant: the escrows passed are right, and the sums are those over them.
use Prim.Native.Nat.{◌≤◌}
use native.Mathlib.Omega.{arith}
use mathlib.Core.Path.{◌≡◌}
use mathlib.Core.Bool.{true, false≢true}
use Rattle.rules.specs.Limits.{MAX_WALLETS, FROM, TO}
use Rattle.rules.specs.Table.{word, all}
use Rattle.rules.specs.Sound.{escrow_tests}
use Rattle.rules.proofs.Counts.{every_none, every_on, every_fails}
use Rattle.index.proofs.Laws.{indexed_apart}
use Rattle.sound.specs.Parts.{parties}
use Rattle.sound.proofs.Holds.{Sent, sent, not_sent, sent_row, row_wrong, row_right, sums_fit, held_more}
use borrow.Author.Rules.{rules}
use Rattle.sound.proofs.escrows.hold_all.Goals as goal
use Rattle.sound.proofs.escrows.hold_all.Goals.{In-Some}

pub loop-k-init : goal.loop-k-init
loop-k-init c = (every_none _, c.requires.2)

pub returns-then-not-escrow_right : goal.returns-then-not-escrow_right
returns-then-not-escrow_right c =
    let a = c.args in
    record {
      right =
          every_fails _ c.loop-k.k _ (search rules)
          (row_wrong a.len a.w.now a.n a.e.now a.m _ _ c.escrow_right.ensures c.if-not-escrow_right.true);
      held = λ z. absurd (false≢true z);
    }

pub returns-in_default : goal.returns-in_default
returns-in_default c =
    record {
      right = every_fails _ c.loop-k.k _ (search rules) (not_sent _ _ _ _ _ _ c.sender.ensures c.in_default.is);
      held = λ z. absurd (false≢true z);
    }

-- both wallets are written
was_sent : (c : In-Some)
    → let a = c.args in
    Sent a.w.now a.n (word a.e.now a.len c.loop-k.k FROM) (word a.e.now a.len c.loop-k.k TO) c.in-Some.from.0
was_sent c = sent _ _ _ _ _ _ c.sender.ensures c.in-Some.is

-- the escrow is right
is_right : (c : In-Some)
    → let a = c.args in
    all (escrow_tests (parties a.len a.w.now a.n a.e.now a.m) c.loop-k.k) ≡ true
is_right c =
    let a = c.args in
    row_right a.len a.w.now a.n a.e.now a.m c.loop-k.k _ _ c.escrow_right.ensures c.if-not-escrow_right.false (was_sent c)

-- the sender's number is one
numbered : (c : In-Some) → c.in-Some.from.0 ≤ MAX_WALLETS
numbered c = omega (arith, (was_sent c).numbered, sent_row _ _ _ _ _ (was_sent c), c.requires.0.few)

pub offset_bounds-sums-from : goal.offset_bounds-sums-from
offset_bounds-sums-from c = omega (arith, numbered (goal.at.offset_bounds-sums-from c).In-Some)

pub bounds-sums-from : goal.bounds-sums-from
bounds-sums-from c = omega (arith, numbered (goal.at.bounds-sums-from c).In-Some)

pub overflow_add-sums : goal.overflow_add-sums
overflow_add-sums c =
    let l = c.loop-k in
    omega (arith, sums_fit _ _ _ _ c.args.m l.k _ _ _ _ _ l.invariant.1 l.invariant.0 (is_right (goal.at.overflow_add-sums c).In-Some) (was_sent (goal.at.overflow_add-sums c).In-Some) (omega (arith, c.loop-k-test.true, c.requires.0.fewer)) c.held_in.ensures)

pub bounds-sums-from-in-loop-k : goal.bounds-sums-from-in-loop-k
bounds-sums-from-in-loop-k c = omega (arith, numbered (goal.at.bounds-sums-from-in-loop-k c).In-Some)

pub loop-k-preserved : goal.loop-k-preserved
loop-k-preserved c =
    let l = c.loop-k in
    let p = c.requires in (
      every_on _ _ l.invariant.0 (is_right (goal.at.loop-k-preserved c).In-Some),
      held_more _ _ _ _ _ _ _ _ _ l.invariant.1 (indexed_apart _ _ _ _ p.1) p.0.few (was_sent (goal.at.loop-k-preserved c).In-Some) c.held_in.ensures,
    )
