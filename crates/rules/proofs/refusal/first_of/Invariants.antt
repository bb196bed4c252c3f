-- What is left of the checks refuses as all of them do.
use Rattle.std.proofs.Common.{◌≡◌, drop}
use Rattle.rules.specs.Numbers.{first_of}
use Rattle.rules.proofs.refusal.first_of.Given as goal

abbrev pub invariant-loop-holds : goal.invariant-loop-holds
invariant-loop-holds g l = first_of (drop l.holds-index l.holds-items) ≡ first_of l.fn.checks
