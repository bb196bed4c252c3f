-- `record::trips::read_write` meets its contract: that bytes are below 256 is what the slice's type says of them.
use Rattle.record.proofs.Back.{trip_of_bytes, trip_of_none}
use Rattle.record.proofs.trips.read_write.Goals as goal

pub returns-in-Some : goal.returns-in-Some
returns-in-Some c = trip_of_bytes _ _ _ _ _ (λ i. (c.type_inv.bytes i).fits) c.in-Some.ensures c.write_record.ensures

pub returns-in-None : goal.returns-in-None
returns-in-None c = trip_of_none _ _ c.in-None.ensures
