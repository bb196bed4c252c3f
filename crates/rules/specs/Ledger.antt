-- Section "Lent tables": the five tables, their words by name, their lengths, and starting afresh.
use Rattle.std.specs.Prelude.{List, [], ◌∷◌, Bool, cond, ◌&&◌, ℕ, ◌+◌, ◌-◌, ◌≤◌, ◌<◌, ◌^◌, get_or, set, length, replicate, eqb, ltb, leb}
use Rattle.rules.specs.Limits.{FIRST_EDITION, HEADER_LEN, ESCROW_LEN, WALLET_LEN, RECEIPT_LEN, JOURNAL_LEN, MAX_WALLETS, MAX_ESCROWS, MAX_RECEIPTS, MAX_ENTRIES}
use Rattle.rules.specs.Limits.{WALLETS, ESCROWS, RECEIPTS, ENTRIES, ID}
use Rattle.rules.specs.Table.{word, put, put_row, rows_in, table_right, all, seek}
pub use Rattle.rules.specs.declared.Edition.{Edition}

-- an edition is its number, and the words of its header and of an escrow row: the very struct that the code is given
abbrev pub first_edition : Edition
first_edition = record { number = FIRST_EDITION; header = HEADER_LEN; escrow = ESCROW_LEN }

-- an edition that the code can serve: its header and escrow rows have all the words named here, and no place in a table wraps
pub record Sized (ed : Edition) : Type 0 where
  pub header : HEADER_LEN ≤ ed.header
  pub escrow : ESCROW_LEN ≤ ed.escrow
  pub small : ed.escrow < 2 ^ 16

pub record Ledger : Type 0 where
  pub edition : Edition
  pub header : List ℕ
  pub wallets : List ℕ
  pub escrows : List ℕ
  pub receipts : List ℕ
  pub journal : List ℕ

-- five lent slices of an edition; of the first
abbrev pub ledger_of : Edition → List ℕ → List ℕ → List ℕ → List ℕ → List ℕ → Ledger
ledger_of ed h w e r j = record { edition = ed; header = h; wallets = w; escrows = e; receipts = r; journal = j }

abbrev pub ledger : List ℕ → List ℕ → List ℕ → List ℕ → List ℕ → Ledger
ledger = ledger_of first_edition

-- a word of the header, and of a row of each table: `wallet L i BALANCE`
abbrev pub head : Ledger → ℕ → ℕ
head L k = get_or L.header k 0

abbrev pub wallet : Ledger → ℕ → ℕ → ℕ
wallet L i k = word L.wallets WALLET_LEN i k

abbrev pub escrow : Ledger → ℕ → ℕ → ℕ
escrow L i k = word L.escrows L.edition.escrow i k

abbrev pub receipt : Ledger → ℕ → ℕ → ℕ
receipt L i k = word L.receipts RECEIPT_LEN i k

abbrev pub entry : Ledger → ℕ → ℕ → ℕ
entry L i k = word L.journal JOURNAL_LEN i k

-- rows written
abbrev pub wallet_count : Ledger → ℕ
wallet_count L = head L WALLETS

abbrev pub escrow_count : Ledger → ℕ
escrow_count L = head L ESCROWS

abbrev pub receipt_count : Ledger → ℕ
receipt_count L = head L RECEIPTS

abbrev pub entry_count : Ledger → ℕ
entry_count L = head L ENTRIES

-- the first of n rows of a wallet table that has the id, or n
unfoldable pub row_of : List ℕ → ℕ → ℕ → ℕ
row_of wallets n id = seek n (λ i. eqb (word wallets WALLET_LEN i ID) id)

-- the row of a wallet, or the rows written if there is none: that is where a new one goes
abbrev pub wallet_row : Ledger → ℕ → ℕ
wallet_row L id = row_of L.wallets (wallet_count L) id

abbrev pub has_wallet : Ledger → ℕ → Bool
has_wallet L id = ltb (wallet_row L id) (wallet_count L)

-- a word of the wallet of id
abbrev pub wallet_of : Ledger → ℕ → ℕ → ℕ
wallet_of L id k = wallet L (wallet_row L id) k

-- the number k names one of n written rows
abbrev pub written : ℕ → ℕ → Bool
written n k = ltb 0 k && leb k n

-- no unwritten row
abbrev pub full : ℕ → List ℕ → ℕ → Bool
full len t n = leb (rows_in len t) n

-- the ledger of another edition, and with one table changed
abbrev pub set_edition : Edition → Ledger → Ledger
set_edition e L = record { edition = e; header = L.header; wallets = L.wallets; escrows = L.escrows; receipts = L.receipts; journal = L.journal }

abbrev pub set_header : List ℕ → Ledger → Ledger
set_header t L = record { edition = L.edition; header = t; wallets = L.wallets; escrows = L.escrows; receipts = L.receipts; journal = L.journal }

abbrev pub set_wallets : List ℕ → Ledger → Ledger
set_wallets t L = record { edition = L.edition; header = L.header; wallets = t; escrows = L.escrows; receipts = L.receipts; journal = L.journal }

abbrev pub set_escrows : List ℕ → Ledger → Ledger
set_escrows t L = record { edition = L.edition; header = L.header; wallets = L.wallets; escrows = t; receipts = L.receipts; journal = L.journal }

abbrev pub set_receipts : List ℕ → Ledger → Ledger
set_receipts t L = record { edition = L.edition; header = L.header; wallets = L.wallets; escrows = L.escrows; receipts = t; journal = L.journal }

abbrev pub set_journal : List ℕ → Ledger → Ledger
set_journal t L = record { edition = L.edition; header = L.header; wallets = L.wallets; escrows = L.escrows; receipts = L.receipts; journal = t }

-- one word set
unfoldable pub put_head : ℕ → ℕ → Ledger → Ledger
put_head k v L = set_header (set L.header k v) L

unfoldable pub put_wallet : ℕ → ℕ → ℕ → Ledger → Ledger
put_wallet i k v L = set_wallets (put L.wallets WALLET_LEN i k v) L

unfoldable pub put_escrow : ℕ → ℕ → ℕ → Ledger → Ledger
put_escrow i k v L = set_escrows (put L.escrows L.edition.escrow i k v) L

unfoldable pub put_receipt : ℕ → ℕ → ℕ → Ledger → Ledger
put_receipt i k v L = set_receipts (put L.receipts RECEIPT_LEN i k v) L

-- a new row takes the first unwritten place, and is counted
unfoldable pub new_wallet : List ℕ → Ledger → Ledger
new_wallet vs L = put_head WALLETS (wallet_count L + 1) (set_wallets (put_row L.wallets WALLET_LEN (wallet_count L) vs) L)

unfoldable pub new_escrow : List ℕ → Ledger → Ledger
new_escrow vs L = put_head ESCROWS (escrow_count L + 1) (set_escrows (put_row L.escrows L.edition.escrow (escrow_count L) vs) L)

unfoldable pub new_receipt : List ℕ → Ledger → Ledger
new_receipt vs L = put_head RECEIPTS (receipt_count L + 1) (set_receipts (put_row L.receipts RECEIPT_LEN (receipt_count L) vs) L)

unfoldable pub new_entry : List ℕ → Ledger → Ledger
new_entry vs L = put_head ENTRIES (entry_count L + 1) (set_journal (put_row L.journal JOURNAL_LEN (entry_count L) vs) L)

-- the lengths of the five slices
abbrev pub length_tests : Ledger → List Bool
length_tests L =
    eqb (length L.header) L.edition.header
    ∷ table_right WALLET_LEN MAX_WALLETS L.wallets
    ∷ table_right L.edition.escrow MAX_ESCROWS L.escrows
    ∷ table_right RECEIPT_LEN MAX_RECEIPTS L.receipts
    ∷ table_right JOURNAL_LEN MAX_ENTRIES L.journal
    ∷ []

unfoldable pub lengths_right : Ledger → Bool
lengths_right L = all (length_tests L)

-- an answer: its number, its word, and the ledger that is left
pub record Outcome : Type 0 where
  pub number : ℕ
  pub word : ℕ
  pub left : Ledger

abbrev pub outcome : ℕ → ℕ → Ledger → Outcome
outcome number word left = record { number = number; word = word; left = left }

-- starting afresh: the header is the edition's number and zeros, and nothing else is touched
abbrev pub fresh_header : Edition → List ℕ
fresh_header e = e.number ∷ replicate (e.header - 1) 0

unfoldable pub fresh : Ledger → Outcome
fresh L = cond (lengths_right L) (outcome 0 0 (set_header (fresh_header L.edition) L)) (outcome 1 0 L)
