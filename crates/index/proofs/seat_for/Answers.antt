-- `index::seat_for` meets its contract. The loop's invariant: the walk has come to p.
use mathlib.Core.Path.{◌≡◌, sym, ◌∙◌}
use lib.ListN.{get_or}
use native.Mathlib.Omega.{arith}
use Prim.Native.Nat.{ℕ}
use Rattle.index.proofs.Walks.{walk_start, walk_on, walk_end}
use borrow.Author.Rules.{rules}
use Rattle.index.proofs.seat_for.Goals as goal

pub loop-step-init : goal.loop-step-init
loop-step-init c = (search rules, walk_start _ _ _)

pub returns-then-s-eq0 : goal.returns-then-s-eq0
returns-then-s-eq0 c =
    let l = c.loop-step in
    let a = c.args in
    let z : ◌≡◌ {A = ℕ} (get_or a.t.now l.p 0) 0 = sym c.from-s.ensures ∙ c.if-s-eq0.true in
    record {
      room = search rules;
      free = z;
      leads = walk_end a.ids.now a.t.now a.x l.step l.p l.y l.invariant.1 (omega arith) (omega (arith, c.requires.1.room)) z;
    }

pub loop-step-preserved : goal.loop-step-preserved
loop-step-preserved c =
    let l = c.loop-step in (
      omega (arith, c.from-s.ensures, c.requires.1.most l.p),
      walk_on _ _ _ l.step l.p l.y _ l.invariant.1 (omega arith) c.from-s.ensures c.if-s-eq0.false c.if-ids-s.false,
    )
