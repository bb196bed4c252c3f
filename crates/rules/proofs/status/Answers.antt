-- `rules::status` meets its contract: one computed test over the code's table, and 500 past its end.
use Rattle.std.proofs.Common.{rules, ℕ, List, [], ◌∷◌, sym}
use lib.Dec.{eqb, eqb→eq}
use lib.ListN.{get_or, get_or-eq_default}
use Rattle.rules.specs.Limits.{ANSWERS}
use Rattle.rules.specs.Status.{statuses, status_of}
use Rattle.rules.specs.Table.{every}
use Rattle.rules.proofs.Below.{below}
use Rattle.rules.proofs.status.Goals as goal

-- the code's table
abbrev table : List ℕ
table =
    200 ∷ 500 ∷ 500 ∷ 400 ∷ 409 ∷ 503 ∷ 400 ∷ 403 ∷ 400 ∷ 400 ∷ 400 ∷ 409 ∷ 400 ∷ 404 ∷ 403 ∷ 400 ∷ 404 ∷ 402 ∷ 400 ∷ 429 ∷ 400
    ∷ 400 ∷ 404 ∷ 404 ∷ 400 ∷ 400 ∷ 400 ∷ 404 ∷ 403 ∷ 409 ∷ 400 ∷ 400 ∷ 404 ∷ 403 ∷ 409 ∷ 400 ∷ 409 ∷ 507 ∷ 507 ∷ 507 ∷ 507 ∷ 409 ∷ 409 ∷ 403 ∷ []

pub returns-then-number-le-LAST_ANSWER : goal.returns-then-number-le-LAST_ANSWER
unfolding every
returns-then-number-le-LAST_ANSWER c =
    eqb→eq (get_or table c.args.number 0) (status_of c.args.number)
    (below (λ (k : ℕ). eqb (get_or table k 0) (status_of k)) ANSWERS tt c.args.number (search rules))

pub returns-else-number-le-LAST_ANSWER : goal.returns-else-number-le-LAST_ANSWER
returns-else-number-le-LAST_ANSWER c = sym (get_or-eq_default statuses 500 {n = c.args.number} (search rules))
