-- `record::fields` meets its contract: the definition's words at the same places.
use Rattle.rules.specs.Record.{decode}
use Rattle.record.proofs.fields.Goals as goal

pub returns : goal.returns
unfolding decode
returns c = cc
