-- A submission that nothing refuses: the lengths are right, the ledger is sound, the record is well-formed, and no condition of 4 to 43 holds.
use Rattle.std.specs.Prelude.{◌≡◌, List, ◌++◌, true, ℕ}
use Rattle.rules.specs.Ledger.{Ledger, Sized, ledger_of}
use Rattle.rules.specs.Record.{well_formed}
use Rattle.rules.specs.Sound.{Ready}
use Rattle.rules.specs.Refusals.{first, envelope_refusals, operation_refusals}
use Rattle.rules.specs.declared.Edition.{Edition}
use Rattle.rules.specs.declared.Submission.{Submission}

pub record Settles (L : Ledger) (s : Submission) : Type 0 where
  pub sized : Sized L.edition
  pub ready : Ready L
  pub formed : well_formed s ≡ true
  pub passed : first (envelope_refusals L s ++ operation_refusals L s) ≡ 0

-- the same where the journal is not lent: there is one
pub record Operates (ed : Edition) (header wallets escrows receipts : List ℕ) (s : Submission) : Type 0 where
  pub journal : List ℕ
  pub settles : Settles (ledger_of ed header wallets escrows receipts journal) s
