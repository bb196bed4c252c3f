-- `convert::convert_at` meets its contract: of either answer of the reader the operation is that of what is read.
use Rattle.std.proofs.Common.{◌≡◌, ℕ, Option, None, Some, MatchOption, rules}
use Rattle.rules.specs.declared.Submission.{Submission}
use Rattle.convert.proofs.Turned.{read_operation, stored}
use Rattle.convert.proofs.convert_at.Goals as goal

-- what `map_or` says of either, where Gives is what its closure says
of_either :
    {Gives : Submission → Type 0} (o : Option Submission) (was : ℕ)
    → ((s : Submission) → Gives s → was ≡ s.op) → MatchOption o (was ≡ 0) Gives → was ≡ read_operation o
of_either None was gives e = e
of_either (Some s) was gives e = gives s e

pub returns : goal.returns
returns c =
    stored _ _ _ _ c.read_by.ensures (of_either c.read_by.result _ (λ s gives. search (gives, rules)) c.map_or-old.ensures)
    c.new_operation-operation.ensures c.new_flags-flags.ensures
