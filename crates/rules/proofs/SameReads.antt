-- What is read of a ledger is read of its header and its written rows. Two ledgers that are the same there have the same words in each written
-- row, the same row for each wallet's id, and the same tests of every row.
use mathlib.Core.Path.{◌≡◌, refl, ap, ap₂}
use mathlib.Core.Bool.{Bool, true, false, ◌&&◌}
use Prim.Native.Nat.{ℕ, ◌-◌, ◌≤◌, ◌<◌}
use native.Mathlib.Omega.{arith}
use lib.ListN.{length}
use lib.Dec.{eqb, lit<}
use Rattle.rules.specs.Limits.{WALLET_LEN, RECEIPT_LEN, JOURNAL_LEN, ID}
use Rattle.rules.specs.Table.{every}
use Rattle.rules.specs.Ledger.{Ledger, head, wallet, escrow, receipt, entry, wallet_count, escrow_count, receipt_count, entry_count}
use Rattle.rules.specs.Ledger.{row_of, wallet_row, has_wallet, wallet_of, written}
use Rattle.rules.specs.Refusals.{of_escrow}
use Rattle.rules.specs.Promises.{SameLengths}
use Rattle.rules.specs.Same.{SameWritten}
use Rattle.rules.proofs.Counts.{every_ext}
use Rattle.rules.proofs.Seek.{seek_ext}
use Rattle.rules.proofs.Passed.{written_row}
use Rattle.rules.proofs.SameTables.{same_word}

-- a test that is asked only where another holds
pub guarded : (a b x y : Bool) → a ≡ b → (b ≡ true → x ≡ y) → a && x ≡ b && y
guarded a true x y e f = ap₂ ◌&&◌ e (f refl)
guarded a false x y e f = ap (λ (t : Bool). t && x) e

module _ (K L : Ledger) (a : SameWritten K L) where
  pub lengths_of : SameLengths K L
  lengths_of = record {
    edition = a.edition;
    header = ap length a.header;
    wallets = a.wallets.lengths;
    escrows = a.escrows.lengths;
    receipts = a.receipts.lengths;
    journal = a.journal.lengths;
  }

  -- ---- words

  pub head_same : (k : ℕ) → head K k ≡ head L k
  head_same k = rw a.header

  pub wallet_same : (i : ℕ) → i < wallet_count L → (k : ℕ) → k < WALLET_LEN → wallet K i k ≡ wallet L i k
  wallet_same = same_word WALLET_LEN (wallet_count L) K.wallets L.wallets a.wallets

  pub escrow_same : 8 ≤ L.edition.escrow → (i : ℕ) → i < escrow_count L → (k : ℕ) → k < 8 → escrow K i k ≡ escrow L i k
  escrow_same wide i i< k k< =
      rw a.edition (same_word L.edition.escrow (escrow_count L) K.escrows L.escrows a.escrows i i< k (omega arith))

  pub receipt_same : (i : ℕ) → i < receipt_count L → (k : ℕ) → k < RECEIPT_LEN → receipt K i k ≡ receipt L i k
  receipt_same = same_word RECEIPT_LEN (receipt_count L) K.receipts L.receipts a.receipts

  pub entry_same : (i : ℕ) → i < entry_count L → (k : ℕ) → k < JOURNAL_LEN → entry K i k ≡ entry L i k
  entry_same = same_word JOURNAL_LEN (entry_count L) K.journal L.journal a.journal

  -- what is asked of escrow n if it is written
  pub of_escrow_same : 8 ≤ L.edition.escrow → (n : ℕ) (f : ℕ → ℕ → Bool) (k l : ℕ) → k < 8 → l < 8
      → of_escrow K n (f (escrow K (n - 1) k) (escrow K (n - 1) l)) ≡ of_escrow L n (f (escrow L (n - 1) k) (escrow L (n - 1) l))
  of_escrow_same wide n f k l k< l< =
      guarded (written (escrow_count K) n) (written (escrow_count L) n) _ _ (rw a.header)
      (λ there. let w = escrow_same wide (n - 1) (written_row (escrow_count L) n there) in ap₂ f (w k k<) (w l l<))

  -- ---- what is tested of the rows that word c of the header counts

  pub every_same : (c : ℕ) (p q : ℕ → Bool) → ((i : ℕ) → i < head L c → p i ≡ q i) → every (head K c) p ≡ every (head L c) q
  every_same c p q e = rw a.header (every_ext (head L c) p q e)

  -- ---- wallets by id

  pub row_same : (id : ℕ) → wallet_row K id ≡ wallet_row L id
  unfolding row_of
  row_same id =
      rw a.header (seek_ext (wallet_count L) (λ i. eqb (wallet K i ID) id) (λ i. eqb (wallet L i ID) id) (λ i h. rw (wallet_same i h ID (lit< tt))))

  pub has_same : (id : ℕ) → has_wallet K id ≡ has_wallet L id
  has_same id = rw (row_same id, a.header)

  pub of_same : (id k : ℕ) → wallet_row L id < wallet_count L → k < WALLET_LEN → wallet_of K id k ≡ wallet_of L id k
  of_same id k h k< = rw (row_same id, wallet_same (wallet_row L id) h k k<)
