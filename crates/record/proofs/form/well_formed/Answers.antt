-- `record::form::well_formed` meets its contract.
use Rattle.record.proofs.Uses.{formed}
use Rattle.record.proofs.form.well_formed.Goals as goal

pub returns : goal.returns
returns c = formed c.args.form c.args.s c.eq-today.ensures
