-- The numbers of document 01 by name: limits, times, columns, operations, states. Credits are micro-credits and times milliseconds.
use Rattle.std.specs.Prelude.{ℕ, ◌+◌}

-- the first edition's number
abbrev pub FIRST_EDITION : ℕ
FIRST_EDITION = 1

-- row lengths in words, and the most rows
abbrev pub WALLET_LEN : ℕ
WALLET_LEN = 6

-- the first edition's header and escrow row
abbrev pub HEADER_LEN : ℕ
HEADER_LEN = 8

abbrev pub ESCROW_LEN : ℕ
ESCROW_LEN = 8

abbrev pub RECEIPT_LEN : ℕ
RECEIPT_LEN = 14

abbrev pub JOURNAL_LEN : ℕ
JOURNAL_LEN = 8

abbrev pub MAX_WALLETS : ℕ
MAX_WALLETS = 1024

abbrev pub MAX_ESCROWS : ℕ
MAX_ESCROWS = 4096

abbrev pub MAX_RECEIPTS : ℕ
MAX_RECEIPTS = 4096

abbrev pub MAX_ENTRIES : ℕ
MAX_ENTRIES = 8192

-- amounts
abbrev pub MAX_AMOUNT_MICRO : ℕ
MAX_AMOUNT_MICRO = 1_000_000_000_000_000

abbrev pub MAX_GRANTED_MICRO : ℕ
MAX_GRANTED_MICRO = 1_000_000_000_000_000_000

abbrev pub DEFAULT_TX_CAP_MICRO : ℕ
DEFAULT_TX_CAP_MICRO = 100_000_000

abbrev pub DEFAULT_DAILY_CAP_MICRO : ℕ
DEFAULT_DAILY_CAP_MICRO = 1_000_000_000

-- times; the last one is 2^48 - 1
abbrev pub LAST_TIME_MS : ℕ
LAST_TIME_MS = 281_474_976_710_655

abbrev pub MAX_SKEW_MS : ℕ
MAX_SKEW_MS = 30_000

abbrev pub MAX_ENVELOPE_MS : ℕ
MAX_ENVELOPE_MS = 3_600_000

abbrev pub DAY_MS : ℕ
DAY_MS = 86_400_000

abbrev pub MAX_HOLD_MS : ℕ
MAX_HOLD_MS = 604_800_000

abbrev pub MIN_ACCEPTANCE_MS : ℕ
MIN_ACCEPTANCE_MS = 300_000

abbrev pub MAX_ACCEPTANCE_MS : ℕ
MAX_ACCEPTANCE_MS = 604_800_000

-- the most rows that a sweep closes
abbrev pub MAX_SWEEP_ROWS : ℕ
MAX_SWEEP_ROWS = 1_000

-- the bytes of a record, and its mark
abbrev pub RECORD_BYTES : ℕ
RECORD_BYTES = 108

abbrev pub MARK_0 : ℕ
MARK_0 = 0xA7

abbrev pub MARK_1 : ℕ
MARK_1 = 0x3C

-- where its operation and its flags stand
abbrev pub OPERATION_AT : ℕ
OPERATION_AT = 2

abbrev pub FLAGS_AT : ℕ
FLAGS_AT = 3

-- the bytes of a recording's entry: a record, one byte of answer, eight bytes of answer word; and where these two stand
abbrev pub ENTRY_BYTES : ℕ
ENTRY_BYTES = 117

abbrev pub ANSWER_AT : ℕ
ANSWER_AT = 108

abbrev pub WORD_AT : ℕ
WORD_AT = 109

-- what a replay found, as a number; 0 where nothing was replayed
abbrev pub NOT_REPLAYED : ℕ
NOT_REPLAYED = 0

abbrev pub ALL_AGREE : ℕ
ALL_AGREE = 1

abbrev pub CUT_SHORT : ℕ
CUT_SHORT = 2

abbrev pub DISAGREES : ℕ
DISAGREES = 3

-- the largest number that a figure of the month's report can have: 2^64 - 1
abbrev pub LAST_FIGURE : ℕ
LAST_FIGURE = 18_446_744_073_709_551_615

-- the report's five figures, in the paper's order; a figure is named by its place, counted from 1, and a cell of the grid behind them
abbrev pub FIGURES : ℕ
FIGURES = 5

abbrev pub GRANTED_SUM : ℕ
GRANTED_SUM = 0

abbrev pub TRANSFERRED_SUM : ℕ
TRANSFERRED_SUM = 1

abbrev pub RELEASED_SUM : ℕ
RELEASED_SUM = 2

abbrev pub REFUNDED_SUM : ℕ
REFUNDED_SUM = 3

abbrev pub EXPIRED_SUM : ℕ
EXPIRED_SUM = 4

-- the first word of what a report has named: the figure, or 0; the row and the column of the entry that it stopped before follow
abbrev pub NAMED_FIGURE : ℕ
NAMED_FIGURE = 0

-- words of the header
abbrev pub EDITION : ℕ
EDITION = 0

abbrev pub SYSTEM_FROZEN : ℕ
SYSTEM_FROZEN = 1

abbrev pub CLOCK : ℕ
CLOCK = 2

abbrev pub GRANTED : ℕ
GRANTED = 3

abbrev pub WALLETS : ℕ
WALLETS = 4

abbrev pub ESCROWS : ℕ
ESCROWS = 5

abbrev pub RECEIPTS : ℕ
RECEIPTS = 6

abbrev pub ENTRIES : ℕ
ENTRIES = 7

-- words of a wallet
abbrev pub ID : ℕ
ID = 0

abbrev pub BALANCE : ℕ
BALANCE = 1

abbrev pub LOCKED : ℕ
LOCKED = 2

abbrev pub FROZEN : ℕ
FROZEN = 3

abbrev pub TX_CAP : ℕ
TX_CAP = 4

abbrev pub DAILY_CAP : ℕ
DAILY_CAP = 5

-- what a wallet's frozen word says, if it isn't 0
abbrev pub IS_FROZEN : ℕ
IS_FROZEN = 1

abbrev pub IS_CLOSED : ℕ
IS_CLOSED = 2

-- what looking up a wallet finds, in numbers
abbrev pub WALLET_MISSING : ℕ
WALLET_MISSING = 0

abbrev pub WALLET_LIVE : ℕ
WALLET_LIVE = 1

abbrev pub WALLET_CLOSED : ℕ
WALLET_CLOSED = 2

-- words of an escrow
abbrev pub FROM : ℕ
FROM = 0

abbrev pub TO : ℕ
TO = 1

abbrev pub ESCROW_AMOUNT : ℕ
ESCROW_AMOUNT = 2

abbrev pub ESCROW_DEADLINE : ℕ
ESCROW_DEADLINE = 3

abbrev pub ESCROW_STATE : ℕ
ESCROW_STATE = 4

abbrev pub OPENED_AT : ℕ
OPENED_AT = 5

abbrev pub ESCROW_CLOSED_AT : ℕ
ESCROW_CLOSED_AT = 6

abbrev pub ESCROW_CLOSED_BY : ℕ
ESCROW_CLOSED_BY = 7

-- words of a receipt; the four hash words are its last
abbrev pub PROVIDER : ℕ
PROVIDER = 0

abbrev pub REQUESTER : ℕ
REQUESTER = 1

abbrev pub RECEIPT_LINK : ℕ
RECEIPT_LINK = 2

abbrev pub ACCEPTANCE_DEADLINE : ℕ
ACCEPTANCE_DEADLINE = 3

abbrev pub AUTO_ACCEPT : ℕ
AUTO_ACCEPT = 4

abbrev pub RECEIPT_STATE : ℕ
RECEIPT_STATE = 5

abbrev pub CLAIMED_AT : ℕ
CLAIMED_AT = 6

abbrev pub RECEIPT_CLOSED_AT : ℕ
RECEIPT_CLOSED_AT = 7

abbrev pub RECEIPT_CLOSED_BY : ℕ
RECEIPT_CLOSED_BY = 8

abbrev pub RELEASE_CODE : ℕ
RELEASE_CODE = 9

-- words of a journal row
abbrev pub SIGNER : ℕ
SIGNER = 0

abbrev pub NONCE : ℕ
NONCE = 1

abbrev pub OPERATION : ℕ
OPERATION = 2

abbrev pub TARGET : ℕ
TARGET = 3

abbrev pub ENTRY_AMOUNT : ℕ
ENTRY_AMOUNT = 4

abbrev pub SETTLED_AT : ℕ
SETTLED_AT = 5

abbrev pub ANSWER_WORD : ℕ
ANSWER_WORD = 6

abbrev pub ENTRY_LINK : ℕ
ENTRY_LINK = 7

-- operations
abbrev pub GRANT : ℕ
GRANT = 1

abbrev pub TRANSFER : ℕ
TRANSFER = 2

abbrev pub OPEN : ℕ
OPEN = 3

abbrev pub RELEASE : ℕ
RELEASE = 4

abbrev pub REFUND : ℕ
REFUND = 5

abbrev pub CLAIM : ℕ
CLAIM = 6

-- an accept or a dispute, by bit 2
abbrev pub REPLY : ℕ
REPLY = 7

abbrev pub SWEEP : ℕ
SWEEP = 9

abbrev pub FREEZE : ℕ
FREEZE = 10

abbrev pub CAPS : ℕ
CAPS = 11

abbrev pub CLOSE : ℕ
CLOSE = 12

-- what 7 and 8 are in the old form; today there is no operation 8
abbrev pub OLD_ACCEPT : ℕ
OLD_ACCEPT = 7

abbrev pub OLD_DISPUTE : ℕ
OLD_DISPUTE = 8

-- the last of them, and the report's rows: row 0, and one for every operation
abbrev pub LAST_OPERATION : ℕ
LAST_OPERATION = CLOSE

abbrev pub GRID_ROWS : ℕ
GRID_ROWS = LAST_OPERATION + 1

-- the last answer, and how many there are: the statuses, and the report's columns
abbrev pub LAST_ANSWER : ℕ
LAST_ANSWER = 43

abbrev pub ANSWERS : ℕ
ANSWERS = LAST_ANSWER + 1

-- bits of the flags
abbrev pub SIGNATURE_HELD : ℕ
SIGNATURE_HELD = 0

abbrev pub ADMIN : ℕ
ADMIN = 1

abbrev pub AUTO_OR_FREEZE : ℕ
AUTO_OR_FREEZE = 2

-- the same bit of a reply
abbrev pub ACCEPTS : ℕ
ACCEPTS = 2

abbrev pub REASON_GIVEN : ℕ
REASON_GIVEN = 3

-- states of an escrow
abbrev pub IS_OPEN : ℕ
IS_OPEN = 1

abbrev pub RELEASED : ℕ
RELEASED = 2

abbrev pub REFUNDED : ℕ
REFUNDED = 3

abbrev pub EXPIRED : ℕ
EXPIRED = 4

-- states of a receipt
abbrev pub PENDING : ℕ
PENDING = 1

abbrev pub ACCEPTED : ℕ
ACCEPTED = 2

abbrev pub DISPUTED : ℕ
DISPUTED = 3

abbrev pub LAPSED : ℕ
LAPSED = 4

-- what a receipt stores where its escrow could not be released
abbrev pub RELEASE_IMPOSSIBLE : ℕ
RELEASE_IMPOSSIBLE = 29
