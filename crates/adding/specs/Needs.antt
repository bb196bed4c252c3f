-- What the figures of a submission rely on: nothing refuses it. The wallets and the journal are not lent: there are such.
use Rattle.std.specs.Prelude.{List, ℕ, ◌≤◌, ◌^◌, ◌<◌}
use Rattle.rules.specs.Limits.{RECEIPT_LEN, MAX_ESCROWS, RECEIPT_LINK}
use Rattle.rules.specs.Table.{word}
use Rattle.rules.specs.Ledger.{ledger_of}
use Rattle.rules.specs.declared.Edition.{Edition}
use Rattle.rules.specs.declared.Submission.{Submission}
use Rattle.sweeping.specs.Needs.{Sweeping}
use Rattle.settling.specs.Needs.{Settles}

pub record Adds (ed : Edition) (header escrows receipts : List ℕ) (s : Submission) : Type 0 where
  pub wallets : List ℕ
  pub journal : List ℕ
  pub settles : Settles (ledger_of ed header wallets escrows receipts journal) s

-- the escrow that the receipt in row i links has its row, and a place in a list of marks
pub record Links (ed : Edition) (receipts : List ℕ) (i : ℕ) : Type 0 where
  pub len : ed.escrow < 2 ^ 16
  pub link : word receipts RECEIPT_LEN i RECEIPT_LINK ≤ MAX_ESCROWS

-- a sweep of these tables can be laid out; the wallets are not lent
pub record Sweeps (ed : Edition) (header escrows receipts : List ℕ) (time : ℕ) : Type 0 where
  pub wallets : List ℕ
  pub sweeping : Sweeping ed header wallets escrows receipts time

-- the same where the receipts are not lent either
pub record Expires (ed : Edition) (header escrows : List ℕ) (time : ℕ) : Type 0 where
  pub receipts : List ℕ
  pub sweeps : Sweeps ed header escrows receipts time
