-- `record::put_fields` meets its contract: four bytes, then the words, are all of the record.
use Rattle.record.proofs.Whole.{stored}
use Rattle.record.proofs.put_fields.Goals as goal

pub returns : goal.returns
returns c = stored c.args.out.now _ c.args.s c.requires c.put_words.ensures
