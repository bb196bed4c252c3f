-- `editions::step` meets its contract: what was decided says whether the submission is refused, and then nothing was changed, or that nothing stands
-- against settling, and then what settling left is the definition's (Submits.antt).
use mathlib.Core.Path.{ap}
use Rattle.rules.specs.Numbers.{as_number}
use Rattle.rules.proofs.Numbers.{hands_on}
use Rattle.editions.proofs.Submits.{refused_so, settles_so, settled_so}
use Rattle.editions.proofs.step.Goals as goal

pub returns-in_err-decided : goal.returns-in_err-decided
returns-in_err-decided c = refused_so _ _ c.requires.1 _ c.decide-decided.ensures c.in_err-decided.was (hands_on _ _ c.from_residual.ensures)

pub settle-word-requires : goal.settle-word-requires
settle-word-requires c = settles_so _ _ c.requires.1 _ c.decide-decided.ensures c.requires.0 (ap as_number c.in_ok-decided.was)

pub returns : goal.returns
returns c = settled_so _ _ c.requires.1 _ c.decide-decided.ensures (ap as_number c.in_ok-decided.was) _ _ c.settle-word.ensures
