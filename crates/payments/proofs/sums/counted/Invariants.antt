-- `sums::counted` meets its contract: so far the sum is that of the rows before i.
use mathlib.Core.Path.{◌≡◌}
use Rattle.rules.specs.Refusals.{counted_of}
use Rattle.payments.proofs.sums.counted.Given as goal

abbrev pub invariant-loop-i : goal.invariant-loop-i
invariant-loop-i l = l.sum ≡ counted_of l.journal l.i l.signer l.clock
