-- `record::write_record` meets its contract.
use mathlib.Core.Path.{sym, ◌∙◌}
use Rattle.record.proofs.Whole.{write_short, write_there, write_malformed}
use Rattle.record.proofs.write_record.Goals as goal

pub returns-then-out-ne-RECORD_BYTES : goal.returns-then-out-ne-RECORD_BYTES
returns-then-out-ne-RECORD_BYTES c = write_short c.args.s c.args.out.now c.if-out-ne-RECORD_BYTES.true

pub returns-then-not-well_formed : goal.returns-then-not-well_formed
returns-then-not-well_formed c = write_malformed c.args.s c.args.out.now c.if-out-ne-RECORD_BYTES.false (sym c.well_formed-2.ensures ∙ c.if-not-well_formed.true)

pub returns : goal.returns
returns c = write_there c.args.s c.args.out.now _ c.if-out-ne-RECORD_BYTES.false (sym c.well_formed-2.ensures ∙ c.if-not-well_formed.false) c.put_fields.ensures
