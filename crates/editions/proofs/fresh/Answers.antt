-- `editions::fresh` meets its contract: a wrong length is answered before anything is touched; else the header is zeros with the edition's number first.
use Rattle.editions.proofs.Starts.{refused, started, header_long}
use native.Mathlib.Omega.{arith}
use Rattle.editions.proofs.fresh.Goals as goal

pub returns-then-not-lengths_right : goal.returns-then-not-lengths_right
returns-then-not-lengths_right c = refused _ c.lengths_right.ensures c.if-not-lengths_right.true

pub bounds-header-0 : goal.bounds-header-0
bounds-header-0 c = omega (arith, header_long _ _ _ _ _ _ c.requires.header c.lengths_right.ensures c.if-not-lengths_right.false, c.fill.ensures.len)

pub returns : goal.returns
returns c =
    started _ _ _ _ _ _ _ c.requires.header c.lengths_right.ensures c.if-not-lengths_right.false (c.fill.ensures.after (λ y is. is))
