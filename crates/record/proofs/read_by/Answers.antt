-- `record::read_by` meets its contract.
use Rattle.record.proofs.Whole.{read_short, read_there, read_malformed}
use Rattle.record.proofs.read_by.Goals as goal

pub returns-then-bytes-ne-RECORD_BYTES : goal.returns-then-bytes-ne-RECORD_BYTES
returns-then-bytes-ne-RECORD_BYTES c = read_short _ c.args.bytes.now c.if-bytes-ne-RECORD_BYTES.true

pub returns-then-bytes-formed : goal.returns-then-bytes-formed
returns-then-bytes-formed c = read_there _ c.args.bytes.now _ c.if-bytes-ne-RECORD_BYTES.false c.fields-s.ensures c.well_formed-formed.ensures c.if-bytes-formed.true

pub returns-else-bytes-formed : goal.returns-else-bytes-formed
returns-else-bytes-formed c = read_malformed _ c.args.bytes.now _ c.if-bytes-ne-RECORD_BYTES.false c.fields-s.ensures c.well_formed-formed.ensures c.if-bytes-formed.false
