-- Any two answers that a public contract of `replay` permits are equal, and so are the words left: each contract is an equation, so both are
-- what the definition gives.
use Rattle.rules.specs.Replay.{Gone, gone}
use Rattle.rules.specs.Results.{Sole}
use Rattle.rules.specs.declared.Found.{Found}
use Rattle.rules.proofs.Sole.{one}
use Rattle.ledger.proofs.Surface.{five}
use Rattle.replay.proofs.replay.Kinds as replay_kinds
use Rattle.replay.proofs.replay.Reads as replay_reads

-- what is found, and the five tables as they are left
pub sole_replay : Sole replay_kinds.ps replay_kinds.r replay_reads.Learnt (Gone Found) (λ κs x e. gone x (five e))
sole_replay κs a x y v w p q = one p q
