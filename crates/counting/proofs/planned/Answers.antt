-- `counting::planned` meets its contract: a refusal adds nothing, and of a submission that settles it is what `adding` has worked out.
use mathlib.Core.Path.{sym, ap, ◌∙◌}
use Rattle.rules.specs.Numbers.{as_number, decided_as}
use Rattle.rules.proofs.Numbers.{not_0}
use Rattle.counting.proofs.Laws.{plans_none}
use Rattle.counting.proofs.planned.Goals as goal

pub returns-in-Err : goal.returns-in-Err
returns-in-Err c = λ K p. plans_none _ (decided_as c.args.decided) (λ z. not_0 _ (sym (ap as_number c.in-Err.is) ∙ z))
