-- Two ledgers that differ in unwritten rows only. Unwritten rows may hold anything, so this is as alike as two ledgers can be made by their
-- calls.
use Rattle.std.specs.Prelude.{◌≡◌, List, ℕ, ◌*◌, ◌<◌, get_or, length}
use Rattle.rules.specs.Limits.{WALLET_LEN, RECEIPT_LEN, JOURNAL_LEN}
use Rattle.rules.specs.Ledger.{Ledger, Outcome, wallet_count, escrow_count, receipt_count, entry_count}

-- two tables of one length, with the same words in their first n rows
pub record SameRows (len n : ℕ) (s t : List ℕ) : Type 0 where
  pub lengths : length s ≡ length t
  pub words : (p : ℕ) → p < n * len → get_or s p 0 ≡ get_or t p 0

-- the same edition, header, lengths and written rows
pub record SameWritten (K L : Ledger) : Type 0 where
  pub edition : K.edition ≡ L.edition
  pub header : K.header ≡ L.header
  pub wallets : SameRows WALLET_LEN (wallet_count L) K.wallets L.wallets
  pub escrows : SameRows L.edition.escrow (escrow_count L) K.escrows L.escrows
  pub receipts : SameRows RECEIPT_LEN (receipt_count L) K.receipts L.receipts
  pub journal : SameRows JOURNAL_LEN (entry_count L) K.journal L.journal

-- the same number and word, and ledgers left that are so alike again
pub record SameOutcome (o p : Outcome) : Type 0 where
  pub number : o.number ≡ p.number
  pub word : o.word ≡ p.word
  pub left : SameWritten o.left p.left
