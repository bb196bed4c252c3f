-- What an operation may rely on, over the lent lists alone.
use Rattle.std.specs.Prelude.{◌≡◌, ◌≢◌, List, false, ℕ, ◌+◌, ◌<◌, ◌≤◌, ◌^◌, length, get_or}
use Rattle.rules.specs.Limits.{HEADER_LEN, WALLET_LEN, MAX_ESCROWS, MAX_RECEIPTS, MAX_AMOUNT_MICRO, MAX_GRANTED_MICRO, WALLETS, ESCROWS, RECEIPTS, GRANTED, BALANCE, LOCKED}
use Rattle.rules.specs.Table.{word, rows_in}
use Rattle.rules.specs.Wallets.{closed_at}
use Rattle.rules.specs.declared.Edition.{Edition}
use Rattle.rules.specs.declared.Submission.{Submission}
use Rattle.moves.specs.Needs.{Counted, row_in}

-- the target can take the amount: it has a wallet or there is room for one, and no balance is more than all grants
pub record Receiving (header wallets : List ℕ) (s : Submission) : Type 0 where
  pub counted : Counted header wallets
  pub place : get_or header WALLETS 0 ≤ row_in header wallets s.target → get_or header WALLETS 0 < rows_in WALLET_LEN wallets
  pub balances : (i : ℕ) → i < get_or header WALLETS 0 → word wallets WALLET_LEN i BALANCE ≤ MAX_GRANTED_MICRO
  pub amount : s.amount ≤ MAX_AMOUNT_MICRO

pub record Granting (header wallets : List ℕ) (s : Submission) : Type 0 where
  pub receiving : Receiving header wallets s
  pub granted : get_or header GRANTED 0 + s.amount ≤ MAX_GRANTED_MICRO

-- the wallet of id is there, and not closed
pub record Lives (header wallets : List ℕ) (id : ℕ) : Type 0 where
  pub there : row_in header wallets id < get_or header WALLETS 0
  pub unclosed : closed_at wallets (row_in header wallets id) ≡ false

-- and the signer has it
pub record Paying (header wallets : List ℕ) (s : Submission) : Type 0 where
  pub receiving : Receiving header wallets s
  pub signer : Lives header wallets s.signer
  pub enough : s.amount ≤ word wallets WALLET_LEN (row_in header wallets s.signer) BALANCE

pub record Opening (ed : Edition) (header wallets : List ℕ) (s : Submission) : Type 0 where
  pub paying : Paying header wallets s
  pub locked : word wallets WALLET_LEN (row_in header wallets s.signer) LOCKED ≤ MAX_GRANTED_MICRO
  pub len : ed.escrow < 2 ^ 16
  pub escrows : get_or header ESCROWS 0 ≤ MAX_ESCROWS

-- the target's wallet is live
pub record Naming (header wallets : List ℕ) (s : Submission) : Type 0 where
  pub counted : Counted header wallets
  pub target : Lives header wallets s.target

-- the same of a freeze, unless it names the system
pub record Freezing (header wallets : List ℕ) (s : Submission) : Type 0 where
  pub counted : Counted header wallets
  pub target : s.target ≢ 0 → Lives header wallets s.target

pub record Claiming (header : List ℕ) : Type 0 where
  pub whole : HEADER_LEN ≤ length header
  pub receipts : get_or header RECEIPTS 0 ≤ MAX_RECEIPTS
