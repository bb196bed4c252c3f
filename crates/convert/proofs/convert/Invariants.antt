-- `convert::convert` meets its contract.
use Rattle.convert.proofs.Turned.{Turned}
use Rattle.convert.proofs.convert.Given as goal

abbrev pub invariant-loop-entry : goal.invariant-loop-entry
invariant-loop-entry l = Turned l.initial.recording l.entry l.recording
