-- `editions::decide` meets its contract: a record that is not read is malformed, and one that is read is answered by the later checks (Submits.antt).
use Rattle.editions.proofs.Submits.{read_well, malformed, checked}
use Rattle.editions.proofs.decide.Goals as goal

pub refusal-requires : goal.refusal-requires
refusal-requires c = record { sized = c.requires.0; ready = c.requires.1; formed = read_well _ c.in-Some.ensures }

pub returns-in-Some : goal.returns-in-Some
returns-in-Some c = checked _ _ c.requires.1 c.in-Some.ensures c.refusal.ensures

pub returns-in-None : goal.returns-in-None
returns-in-None c = malformed _ _ c.requires.1 c.in-None.ensures
