-- What a move may rely on, over the lent lists alone: counts within their tables, and credits that neither wrap nor fall below zero.
use Rattle.std.specs.Prelude.{◌≡◌, ◌≢◌, List, [], Option, Some, None, true, cond, eqb, ℕ, ◌+◌, ◌-◌, ◌*◌, ◌<◌, ◌≤◌, ◌^◌, length, get_or}
use Rattle.rules.specs.Limits.{HEADER_LEN, WALLET_LEN, RECEIPT_LEN, MAX_WALLETS, MAX_ESCROWS, MAX_RECEIPTS, WALLETS, ESCROWS, RECEIPTS, BALANCE, LOCKED}
use Rattle.rules.specs.Limits.{FROM, TO, ESCROW_AMOUNT, RECEIPT_LINK}
use Rattle.rules.specs.Table.{word, put}
use Rattle.rules.specs.Ledger.{row_of, ledger_of}
use Rattle.rules.specs.Refusals.{releasable}
use Rattle.rules.specs.declared.Edition.{Edition}
use Rattle.rules.specs.declared.EscrowNumber.{EscrowNumber}
use Rattle.rows.specs.Numbered.{Names}

-- the row of a wallet, of those that the header counts
abbrev pub row_in : List ℕ → List ℕ → ℕ → ℕ
row_in header wallets id = row_of wallets (get_or header WALLETS 0) id

-- the header has all the named words, and counts no more rows than a table may have
pub record Small (header : List ℕ) : Type 0 where
  pub whole : HEADER_LEN ≤ length header
  pub wallets : get_or header WALLETS 0 ≤ MAX_WALLETS
  pub escrows : get_or header ESCROWS 0 ≤ MAX_ESCROWS
  pub receipts : get_or header RECEIPTS 0 ≤ MAX_RECEIPTS

-- the header has all the named words, and counts wallets that are there
pub record Counted (header wallets : List ℕ) : Type 0 where
  pub whole : HEADER_LEN ≤ length header
  pub most : get_or header WALLETS 0 ≤ MAX_WALLETS
  pub there : get_or header WALLETS 0 * WALLET_LEN ≤ length wallets

-- more and less in word k of the wallet in row i
abbrev pub more : List ℕ → ℕ → ℕ → ℕ → List ℕ
more wallets i k a = put wallets WALLET_LEN i k (word wallets WALLET_LEN i k + a)

abbrev pub less : List ℕ → ℕ → ℕ → ℕ → List ℕ
less wallets i k a = put wallets WALLET_LEN i k (word wallets WALLET_LEN i k - a)

-- an amount can move from word k of a wallet to word j of another: the one has it, and the other can take it
pub record Moves (wallets : List ℕ) (from k to j amount : ℕ) : Type 0 where
  pub from_names : Names from
  pub to_names : Names to
  pub from_word : k < 2 ^ 16
  pub to_word : j < 2 ^ 16
  pub enough : amount ≤ word wallets WALLET_LEN (from - 1) k
  pub fits : word wallets WALLET_LEN (to - 1) j + amount < 2 ^ 64

-- the escrow in row i can end: its sender has its amount locked, and either party can take it
pub record Ends (ed : Edition) (header wallets escrows : List ℕ) (i : ℕ) : Type 0 where
  pub counted : Counted header wallets
  pub len : ed.escrow < 2 ^ 16
  pub held :
      word escrows ed.escrow i ESCROW_AMOUNT ≤ word wallets WALLET_LEN (row_in header wallets (word escrows ed.escrow i FROM)) LOCKED
  pub back :
      word wallets WALLET_LEN (row_in header wallets (word escrows ed.escrow i FROM)) BALANCE + word escrows ed.escrow i ESCROW_AMOUNT < 2 ^ 64
  pub paid :
      word wallets WALLET_LEN (row_in header wallets (word escrows ed.escrow i TO)) BALANCE + word escrows ed.escrow i ESCROW_AMOUNT < 2 ^ 64

-- the escrow that the receipt in row i links, or none
unfoldable pub link_of : List ℕ → ℕ → Option EscrowNumber
link_of receipts i =
    let n = word receipts RECEIPT_LEN i RECEIPT_LINK in
    cond (eqb n 0) None (Some (record { 0 = n }))

-- the receipt in row i can be accepted: an open escrow that it links can end
pub record Accepts (ed : Edition) (header wallets escrows receipts : List ℕ) (now i : ℕ) : Type 0 where
  pub len : ed.escrow < 2 ^ 16
  pub link : word receipts RECEIPT_LEN i RECEIPT_LINK ≤ MAX_ESCROWS
  pub ends :
      word receipts RECEIPT_LEN i RECEIPT_LINK ≢ 0
      → releasable (ledger_of ed header wallets escrows receipts []) now (word receipts RECEIPT_LEN i RECEIPT_LINK - 1) ≡ true
      → Ends ed header wallets escrows (word receipts RECEIPT_LEN i RECEIPT_LINK - 1)
