-- `admin::sweep_refusal` meets its contract.
use mathlib.Core.Path.{◌∙◌}
use Rattle.rules.proofs.Numbers.{numbered_first}
use Rattle.refusals.proofs.Others.{sweep_by}
use Rattle.refusals.proofs.admin.sweep_refusal.Goals as goal

pub returns : goal.returns
returns c = λ L. numbered_first _ c.first_of.ensures ∙ sweep_by L _ c.requires
