-- `admin::open_to` meets its contract: what the fold over the rows gives is what the definition says of them.
use mathlib.Core.Path.{refl, ◌∙◌}
use mathlib.Core.Bool.{false, ◌||◌}
use native.Mathlib.Omega.{arith}
use Rattle.std.proofs.Common.{rules, tests}
use Rattle.std.proofs.lemmas.Iterator.{YieldsList-from_range}
use Rattle.std.proofs.lemmas.Iterator.Consumers.{fold_from_yields_List}
use Rattle.refusals.proofs.OpenTo.{opens, open_fold}
use Rattle.refusals.proofs.admin.open_to.Goals as goal

pub returns : goal.returns
returns c =
    let start = c.args in
    fold_from_yields_List _ (λ b i. b || opens start.len start.escrows.now start.id i) false _ c.fold.ensures.ran
    (YieldsList-from_range 0 start.n start.n refl (omega arith)) (λ b i r q k. search (rules, tests))
    ∙ open_fold start.len start.escrows.now start.n start.id
