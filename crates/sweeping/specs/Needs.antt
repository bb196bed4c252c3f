-- A sweep under way, and what it may rely on: its ledger is good. What good means is stated, and shown to be kept by each turn, in rules.
use Rattle.std.specs.Prelude.{◌≡◌, List, [], true, ℕ, ◌<◌, ◌≤◌, ◌^◌, eqb}
use Rattle.rules.specs.Limits.{LAST_TIME_MS, ESCROW_STATE, IS_OPEN}
use Rattle.rules.specs.Table.{word}
use Rattle.rules.specs.Ledger.{Ledger, ledger_of}
use Rattle.rules.specs.declared.Edition.{Edition}
use Rattle.rules.specs.Settle.{Sweep}
use Rattle.rules.proofs.Good.{Good}
use Rattle.moves.specs.Needs.{Small, Ends}

-- it may still close `room` rows, and has closed `closed`
abbrev pub under_way : ℕ → ℕ → Ledger → Sweep
under_way room closed L = record { room = room; closed = closed; tables = L }

-- the escrow in row i can end if it is open
pub record Expires (ed : Edition) (header wallets escrows : List ℕ) (i : ℕ) : Type 0 where
  pub len : ed.escrow < 2 ^ 16
  pub ends : eqb (word escrows ed.escrow i ESCROW_STATE) IS_OPEN ≡ true → Ends ed header wallets escrows i

pub record Sweeping (ed : Edition) (header wallets escrows receipts : List ℕ) (time : ℕ) : Type 0 where
  pub len : ed.escrow < 2 ^ 16
  pub small : Small header
  pub good : Good (ledger_of ed header wallets escrows receipts [])
  pub now : time ≤ LAST_TIME_MS

-- the same where the receipts are not lent: there are such
pub record Expiring (ed : Edition) (header wallets escrows : List ℕ) (time : ℕ) : Type 0 where
  pub receipts : List ℕ
  pub sweeping : Sweeping ed header wallets escrows receipts time
