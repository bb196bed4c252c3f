-- `record::trips::write_read` meets its contract: that the fields fit is what the struct's type says of them.
use Rattle.record.proofs.Back.{trip_of_fields}
use Rattle.record.proofs.trips.write_read.Goals as goal

pub returns : goal.returns
returns c =
    let t = c.well_formed.0.1 in
    trip_of_fields _ _ _ _ _ (record {
      op = t.1.0.1;
      flags = t.1.1.0.1;
      now = t.1.1.1.0.1;
      signer = t.1.1.1.1.0.1;
      nonce = t.1.1.1.1.1.0.1;
      issued = t.1.1.1.1.1.1.0.1;
      expires = t.1.1.1.1.1.1.1.0.1;
      target = t.1.1.1.1.1.1.1.1.0.1;
      amount = t.1.1.1.1.1.1.1.1.1.0.1;
      until = t.1.1.1.1.1.1.1.1.1.1.0.1;
      link = t.1.1.1.1.1.1.1.1.1.1.1.0.1;
      hash0 = t.1.1.1.1.1.1.1.1.1.1.1.1.0.1;
      hash1 = t.1.1.1.1.1.1.1.1.1.1.1.1.1.0.1;
      hash2 = t.1.1.1.1.1.1.1.1.1.1.1.1.1.1.0.1;
      hash3 = t.1.1.1.1.1.1.1.1.1.1.1.1.1.1.1.0.1;
    }) c.write_record.ensures c.read_record.ensures
