-- Section "Lent tables", the sentence "A ledger is sound if": each of its clauses is a test here.
use Rattle.std.specs.Prelude.{◌≡◌, List, [], ◌∷◌, Bool, true, not, cond, ◌&&◌, ◌||◌, ℕ, ◌+◌, ◌-◌, eqb, leb}
use Rattle.rules.specs.Limits.{WALLET_LEN, RECEIPT_LEN, JOURNAL_LEN, LAST_TIME_MS, MAX_AMOUNT_MICRO, MAX_GRANTED_MICRO, TRANSFER, OPEN}
use Rattle.rules.specs.Limits.{EDITION, SYSTEM_FROZEN, CLOCK, GRANTED, ID, BALANCE, LOCKED, FROZEN, IS_CLOSED, IS_OPEN}
use Rattle.rules.specs.Limits.{FROM, TO, ESCROW_AMOUNT, ESCROW_DEADLINE, ESCROW_STATE, OPENED_AT, ESCROW_CLOSED_AT}
use Rattle.rules.specs.Limits.{PROVIDER, REQUESTER, RECEIPT_LINK, ACCEPTANCE_DEADLINE, AUTO_ACCEPT, RECEIPT_STATE, CLAIMED_AT, RECEIPT_CLOSED_AT}
use Rattle.rules.specs.Limits.{OPERATION, ENTRY_AMOUNT, SETTLED_AT}
use Rattle.rules.specs.Table.{rows_in, all, every, distinct, sum}
use Rattle.rules.specs.Ledger.{Ledger, head, wallet, escrow, receipt, entry, wallet_count, escrow_count, receipt_count, entry_count, has_wallet, written, lengths_right}

abbrev pub flag : ℕ → Bool
flag x = leb x 1

abbrev pub time : ℕ → Bool
time x = leb x LAST_TIME_MS

abbrev pub between : ℕ → ℕ → ℕ → Bool
between a b x = leb a x && leb x b

-- the header: edition, flag, clock, and counts within their tables
abbrev pub header_tests : Ledger → List Bool
header_tests L =
    eqb (head L EDITION) L.edition.number ∷ flag (head L SYSTEM_FROZEN) ∷ time (head L CLOCK)
    ∷ leb (wallet_count L) (rows_in WALLET_LEN L.wallets)
    ∷ leb (escrow_count L) (rows_in L.edition.escrow L.escrows)
    ∷ leb (receipt_count L) (rows_in RECEIPT_LEN L.receipts)
    ∷ leb (entry_count L) (rows_in JOURNAL_LEN L.journal)
    ∷ []

-- a wallet by itself: its frozen word is 0, 1 or, closed, 2
abbrev pub wallet_tests : Ledger → ℕ → List Bool
wallet_tests L i = not (eqb (wallet L i ID) 0) ∷ leb (wallet L i FROZEN) IS_CLOSED ∷ []

-- an escrow by itself: two different wallets, an amount, times, a state; and both wallets are written
abbrev pub escrow_alone_tests : Ledger → ℕ → List Bool
escrow_alone_tests L i =
    not (eqb (escrow L i FROM) (escrow L i TO))
    ∷ between 1 MAX_AMOUNT_MICRO (escrow L i ESCROW_AMOUNT)
    ∷ time (escrow L i ESCROW_DEADLINE) ∷ time (escrow L i OPENED_AT) ∷ time (escrow L i ESCROW_CLOSED_AT)
    ∷ between 1 4 (escrow L i ESCROW_STATE) ∷ []

abbrev pub escrow_tests : Ledger → ℕ → List Bool
escrow_tests L i = has_wallet L (escrow L i FROM) ∷ has_wallet L (escrow L i TO) ∷ escrow_alone_tests L i

-- a link is 0, or a written escrow from the requester to the provider
abbrev pub link_right : Ledger → ℕ → Bool
link_right L i =
    let k = receipt L i RECEIPT_LINK in
    eqb k 0
    || all (written (escrow_count L) k ∷ eqb (escrow L (k - 1) FROM) (receipt L i REQUESTER) ∷ eqb (escrow L (k - 1) TO) (receipt L i PROVIDER) ∷ [])

abbrev pub receipt_tests : Ledger → ℕ → List Bool
receipt_tests L i =
    link_right L i
    ∷ time (receipt L i ACCEPTANCE_DEADLINE) ∷ time (receipt L i CLAIMED_AT) ∷ time (receipt L i RECEIPT_CLOSED_AT)
    ∷ flag (receipt L i AUTO_ACCEPT) ∷ between 1 4 (receipt L i RECEIPT_STATE) ∷ []

-- a time, and an amount for operations 2 and 3
abbrev pub entry_tests : Ledger → ℕ → List Bool
entry_tests L i =
    time (entry L i SETTLED_AT)
    ∷ (not (eqb (entry L i OPERATION) TRANSFER || eqb (entry L i OPERATION) OPEN) || between 1 MAX_AMOUNT_MICRO (entry L i ENTRY_AMOUNT))
    ∷ []

-- what escrow i holds of the wallet of id: its amount while it is open
unfoldable pub held_in : Ledger → ℕ → ℕ → ℕ
held_in L id i = cond (eqb (escrow L i FROM) id && eqb (escrow L i ESCROW_STATE) IS_OPEN) (escrow L i ESCROW_AMOUNT) 0

-- all credits: balances and locked together
unfoldable pub credits : Ledger → ℕ
credits L = sum (wallet_count L) (λ i. wallet L i BALANCE + wallet L i LOCKED)

abbrev pub sound_tests : Ledger → List Bool
sound_tests L =
    all (header_tests L)
    ∷ every (wallet_count L) (λ i. all (wallet_tests L i))
    ∷ distinct (wallet_count L) (λ i. wallet L i ID)
    ∷ every (escrow_count L) (λ i. all (escrow_tests L i))
    ∷ every (receipt_count L) (λ i. all (receipt_tests L i))
    ∷ every (entry_count L) (λ i. all (entry_tests L i))
    ∷ every (wallet_count L) (λ i. eqb (wallet L i LOCKED) (sum (escrow_count L) (held_in L (wallet L i ID))))
    ∷ eqb (credits L) (head L GRANTED)
    ∷ leb (head L GRANTED) MAX_GRANTED_MICRO
    ∷ []

unfoldable pub sound : Ledger → Bool
sound L = all (sound_tests L)

-- what answers 1 and 2 test: right lengths, and sound
pub record Ready (L : Ledger) : Type 0 where
  pub lengths : lengths_right L ≡ true
  pub sound : sound L ≡ true
