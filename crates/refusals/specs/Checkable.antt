-- Where the checks 4 to 43 begin: answers 1, 2 and 3 were not given. And the rows of the table that are left.
use Rattle.std.specs.Prelude.{◌≡◌, List, ◌++◌, true}
use Rattle.rules.specs.Ledger.{Ledger, Sized}
use Rattle.rules.specs.Sound.{Ready}
use Rattle.rules.specs.Record.{well_formed}
use Rattle.rules.specs.Refusals.{Refusal, envelope_refusals, operation_refusals}
use Rattle.rules.specs.declared.Submission.{Submission}

pub record Checkable (L : Ledger) (s : Submission) : Type 0 where
  pub sized : Sized L.edition
  pub ready : Ready L
  pub formed : well_formed s ≡ true

abbrev pub later_refusals : Ledger → Submission → List Refusal
later_refusals L s = envelope_refusals L s ++ operation_refusals L s
