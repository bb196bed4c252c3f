-- `settling::enter` meets its contract.
use Rattle.settling.proofs.Settled.{entered_none, entered}
use Rattle.settling.proofs.enter.Goals as goal

pub returns-then-s-eq-SWEEP : goal.returns-then-s-eq-SWEEP
returns-then-s-eq-SWEEP c = λ K. entered_none K _ _ _ _ c.if-s-eq-SWEEP.true

pub returns : goal.returns
returns c =
    λ K. entered K _ _ _ _ _ _ c.if-s-eq-SWEEP.false c.append.ensures.1 (cc (c.append.ensures.2, c.from.ensures))
