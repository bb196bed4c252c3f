-- `reading::look` meets its contract: `Sofar` holds of the rows read, and is carried on by each row that passes.
use Rattle.reading.proofs.Sofar.{Sofar}
use Rattle.reading.proofs.look.Given as goal

abbrev pub invariant-loop-row : goal.invariant-loop-row
invariant-loop-row l = Sofar l.journal l.n l.signer l.nonce l.clock l.times l.found l.spent l.row
