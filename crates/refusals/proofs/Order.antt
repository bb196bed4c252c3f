-- No answer of the envelope's checks is 0: so if they refuse nothing, the answer is the operation's.
use mathlib.Core.Path.{◌≡◌, refl}
use mathlib.Core.Bool.{true}
use Rattle.rules.specs.Ledger.{Ledger}
use Rattle.rules.specs.Refusals.{envelope_refusals}
use Rattle.rules.specs.declared.Submission.{Submission}
use Rattle.rules.proofs.Refused.{numbered}

pub envelope_numbered : (L : Ledger) (s : Submission) → numbered (envelope_refusals L s) ≡ true
unfolding envelope_refusals
envelope_numbered L s = refl
