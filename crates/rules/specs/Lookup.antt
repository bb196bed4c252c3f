-- Section "Row lookups": that very row of the caller's table, or an empty part; the search for a wallet, which document 02, request 6, asks to tell
-- a closed one from a missing and a live one.
use Rattle.std.specs.Prelude.{List, Bool, not, cond, ◌&&◌, ℕ, ◌-◌, ◌*◌, get_or, length, take, drop, eqb, leb}
use Rattle.rules.specs.Limits.{WALLET_LEN, RECEIPT_LEN, MAX_WALLETS, MAX_ESCROWS, MAX_RECEIPTS, WALLETS, ESCROWS, RECEIPTS}
use Rattle.rules.specs.Table.{rows_in, table_right}
use Rattle.rules.specs.Ledger.{Edition, written}
use Rattle.rules.specs.Wallets.{look_up}
use Rattle.rules.specs.declared.WalletState.{WalletState}
use Rattle.rules.specs.declared.WalletState.TheVariants.{Missing}

-- the header and the table have right lengths, and the count in the header's word c is within the table
abbrev pub count_right : ℕ → ℕ → ℕ → ℕ → List ℕ → List ℕ → Bool
count_right header_len c len most header t =
    eqb (length header) header_len && (table_right len most t && leb (get_or header c 0) (rows_in len t))

-- where row `number` starts in the table, in words; the table's length where there is no such row
unfoldable pub row_place : ℕ → ℕ → ℕ → ℕ → List ℕ → List ℕ → ℕ → ℕ
row_place header_len c len most header t number =
    cond (count_right header_len c len most header t && written (get_or header c 0) number) ((number - 1) * len) (length t)

-- the words from a place on, len of them at most: none at the table's end
abbrev pub part_at : ℕ → List ℕ → ℕ → List ℕ
part_at len t place = take len (drop place t)

abbrev pub escrow_place : Edition → List ℕ → List ℕ → ℕ → ℕ
escrow_place e header escrows number = row_place e.header ESCROWS e.escrow MAX_ESCROWS header escrows number

abbrev pub receipt_place : Edition → List ℕ → List ℕ → ℕ → ℕ
receipt_place e header receipts number = row_place e.header RECEIPTS RECEIPT_LEN MAX_RECEIPTS header receipts number

abbrev pub escrow_part : Edition → List ℕ → List ℕ → ℕ → List ℕ
escrow_part e header escrows number = part_at e.escrow escrows (escrow_place e header escrows number)

abbrev pub receipt_part : Edition → List ℕ → List ℕ → ℕ → List ℕ
receipt_part e header receipts number = part_at RECEIPT_LEN receipts (receipt_place e header receipts number)

-- the wallet of id; missing too where the id is 0, or a length or the count is wrong
unfoldable pub wallet_state : Edition → List ℕ → List ℕ → ℕ → WalletState
wallet_state e header wallets id =
    cond (count_right e.header WALLETS WALLET_LEN MAX_WALLETS header wallets && not (eqb id 0))
    (look_up wallets (get_or header WALLETS 0) id) Missing
