-- Each small move on two ledgers of the same header and written rows leaves them so: a word of the header or of a row, a new row, and the moves
-- of settling over these. A word is set to one value in both if its row is written; a wallet that is missing needs no case of its own.
use mathlib.Core.Path.{◌≡◌, refl, ap}
use mathlib.Core.Logic.{◌≢◌}
use mathlib.Core.List.{List}
use Prim.Native.Nat.{ℕ, ◌+◌, ◌-◌, ◌≤◌, ◌<◌}
use native.Mathlib.Decide.{dec_lt}
use native.Mathlib.Omega.{arith}
use lib.ListN.{get_or, set, length, length-set, get_or-eq_default}
use lib.Seq.{get_or-set_same, get_or-set_other}
use lib.Dec.{lit<}
use Rattle.rules.specs.Limits.{WALLET_LEN, RECEIPT_LEN, JOURNAL_LEN, WALLETS, ESCROWS, RECEIPTS, ENTRIES, BALANCE, LOCKED, FROM, TO, ESCROW_AMOUNT}
use Rattle.rules.specs.Table.{put_row}
use Rattle.rules.specs.Ledger.{Ledger, wallet_count, escrow_count, receipt_count, wallet_row, has_wallet, wallet_of}
use Rattle.rules.specs.Ledger.{put_head, put_wallet, put_escrow, put_receipt, new_wallet, new_escrow, new_receipt, new_entry}
use Rattle.rules.specs.Settle.{raise, lower, blank_wallet, ensure_wallet, end_escrow, close_receipt}
use Rattle.rules.specs.Same.{SameRows, SameWritten}
use Rattle.rules.proofs.Agree.{cond_rel}
use Rattle.rules.proofs.SameTables.{same_put, same_less, same_new}
use Rattle.rules.proofs.SameReads.{wallet_same, escrow_same, row_same, has_same}

-- ---- a table, by its count in the header

-- a word of the header that was set is at most what it was set to
set_most : (h : List ℕ) (k v : ℕ) → get_or (set h k v) k 0 ≤ v
set_most h k v = go (dec_lt k (length h))
  where
    go : Dec (k < length h) → get_or (set h k v) k 0 ≤ v
    go (yes l) = rw (get_or-set_same h k v 0 l) (omega arith)
    go (no l) = let past : length (set h k v) ≤ k = omega (arith, length-set h k v, l) in rw (get_or-eq_default (set h k v) 0 past) (omega arith)

-- another word than the count is set
other_word : (len : ℕ) (h : List ℕ) (k v c : ℕ) {s t : List ℕ} → c ≢ k → SameRows len (get_or h c 0) s t → SameRows len (get_or (set h k v) c 0) s t
other_word len h k v c ne a = rw (get_or-set_other h k c v 0 ne) a

-- a whole row more, which is counted
one_row_more : (len : ℕ) (h : List ℕ) (c : ℕ) (s t vs : List ℕ) → length vs ≡ len → SameRows len (get_or h c 0) s t
    → SameRows len (get_or (set h c (get_or h c 0 + 1)) c 0) (put_row s len (get_or h c 0) vs) (put_row t len (get_or h c 0) vs)
one_row_more len h c s t vs whole a =
    same_less len (get_or h c 0 + 1) _ _ _ (set_most h c (get_or h c 0 + 1)) (same_new len (get_or h c 0) s t vs whole a)

module _ (K L : Ledger) (a : SameWritten K L) where
  -- ---- one word

  pub same_head : (k v : ℕ) → WALLETS ≢ k → ESCROWS ≢ k → RECEIPTS ≢ k → ENTRIES ≢ k → SameWritten (put_head k v K) (put_head k v L)
  unfolding put_head
  same_head k v w e r j = record {
    edition = a.edition;
    header = rw a.header;
    wallets = other_word WALLET_LEN L.header k v WALLETS w a.wallets;
    escrows = other_word L.edition.escrow L.header k v ESCROWS e a.escrows;
    receipts = other_word RECEIPT_LEN L.header k v RECEIPTS r a.receipts;
    journal = other_word JOURNAL_LEN L.header k v ENTRIES j a.journal;
  }

  pub same_put_wallet : (i k v w : ℕ) → (i < wallet_count L → v ≡ w) → SameWritten (put_wallet i k v K) (put_wallet i k w L)
  unfolding put_wallet
  same_put_wallet i k v w f = record {
    edition = a.edition;
    header = a.header;
    wallets = same_put WALLET_LEN (wallet_count L) K.wallets L.wallets a.wallets i k v w f;
    escrows = a.escrows;
    receipts = a.receipts;
    journal = a.journal;
  }

  same_put_escrow : (i k v : ℕ) → SameWritten (put_escrow i k v K) (put_escrow i k v L)
  unfolding put_escrow
  same_put_escrow i k v = record {
    edition = a.edition;
    header = a.header;
    wallets = a.wallets;
    escrows = rw a.edition (same_put L.edition.escrow (escrow_count L) K.escrows L.escrows a.escrows i k v v (λ h. refl));
    receipts = a.receipts;
    journal = a.journal;
  }

  pub same_put_receipt : (i k v : ℕ) → SameWritten (put_receipt i k v K) (put_receipt i k v L)
  unfolding put_receipt
  same_put_receipt i k v = record {
    edition = a.edition;
    header = a.header;
    wallets = a.wallets;
    escrows = a.escrows;
    receipts = same_put RECEIPT_LEN (receipt_count L) K.receipts L.receipts a.receipts i k v v (λ h. refl);
    journal = a.journal;
  }

  -- ---- one row

  same_new_wallet : (vs : List ℕ) → length vs ≡ WALLET_LEN → SameWritten (new_wallet vs K) (new_wallet vs L)
  unfolding new_wallet put_head
  same_new_wallet vs whole = record {
    edition = a.edition;
    header = rw a.header;
    wallets = rw a.header (one_row_more WALLET_LEN L.header WALLETS K.wallets L.wallets vs whole a.wallets);
    escrows = other_word L.edition.escrow L.header WALLETS _ ESCROWS (omega arith) a.escrows;
    receipts = other_word RECEIPT_LEN L.header WALLETS _ RECEIPTS (omega arith) a.receipts;
    journal = other_word JOURNAL_LEN L.header WALLETS _ ENTRIES (omega arith) a.journal;
  }

  pub same_new_escrow : (vs : List ℕ) → length vs ≡ L.edition.escrow → SameWritten (new_escrow vs K) (new_escrow vs L)
  unfolding new_escrow put_head
  same_new_escrow vs whole = record {
    edition = a.edition;
    header = rw a.header;
    wallets = other_word WALLET_LEN L.header ESCROWS _ WALLETS (omega arith) a.wallets;
    escrows = rw (a.header, a.edition) (one_row_more L.edition.escrow L.header ESCROWS K.escrows L.escrows vs whole a.escrows);
    receipts = other_word RECEIPT_LEN L.header ESCROWS _ RECEIPTS (omega arith) a.receipts;
    journal = other_word JOURNAL_LEN L.header ESCROWS _ ENTRIES (omega arith) a.journal;
  }

  pub same_new_receipt : (vs : List ℕ) → length vs ≡ RECEIPT_LEN → SameWritten (new_receipt vs K) (new_receipt vs L)
  unfolding new_receipt put_head
  same_new_receipt vs whole = record {
    edition = a.edition;
    header = rw a.header;
    wallets = other_word WALLET_LEN L.header RECEIPTS _ WALLETS (omega arith) a.wallets;
    escrows = other_word L.edition.escrow L.header RECEIPTS _ ESCROWS (omega arith) a.escrows;
    receipts = rw a.header (one_row_more RECEIPT_LEN L.header RECEIPTS K.receipts L.receipts vs whole a.receipts);
    journal = other_word JOURNAL_LEN L.header RECEIPTS _ ENTRIES (omega arith) a.journal;
  }

  pub same_new_entry : (vs : List ℕ) → length vs ≡ JOURNAL_LEN → SameWritten (new_entry vs K) (new_entry vs L)
  unfolding new_entry put_head
  same_new_entry vs whole = record {
    edition = a.edition;
    header = rw a.header;
    wallets = other_word WALLET_LEN L.header ENTRIES _ WALLETS (omega arith) a.wallets;
    escrows = other_word L.edition.escrow L.header ENTRIES _ ESCROWS (omega arith) a.escrows;
    receipts = other_word RECEIPT_LEN L.header ENTRIES _ RECEIPTS (omega arith) a.receipts;
    journal = rw a.header (one_row_more JOURNAL_LEN L.header ENTRIES K.journal L.journal vs whole a.journal);
  }

  -- ---- the moves of settling

  -- a word of the wallet of id, by what it was
  same_changed : (k id : ℕ) (f : ℕ → ℕ) → k < WALLET_LEN
      → SameWritten (put_wallet (wallet_row K id) k (f (wallet_of K id k)) K) (put_wallet (wallet_row L id) k (f (wallet_of L id k)) L)
  same_changed k id f k< =
      rw (row_same K L a id) (same_put_wallet (wallet_row L id) k _ _ (λ h. ap f (wallet_same K L a (wallet_row L id) h k k<)))

  pub same_raise : (k id x : ℕ) → k < WALLET_LEN → SameWritten (raise k id x K) (raise k id x L)
  unfolding raise
  same_raise k id x k< = same_changed k id (λ w. w + x) k<

  pub same_lower : (k id x : ℕ) → k < WALLET_LEN → SameWritten (lower k id x K) (lower k id x L)
  unfolding lower
  same_lower k id x k< = same_changed k id (λ w. w - x) k<

  pub same_ensure : (id : ℕ) → SameWritten (ensure_wallet id K) (ensure_wallet id L)
  unfolding ensure_wallet
  same_ensure id = cond_rel SameWritten (has_wallet K id) (has_wallet L id) K _ L _ (has_same K L a id) (λ e. a) (λ e. same_new_wallet (blank_wallet id) refl)

pub same_close : (K L : Ledger) → SameWritten K L → (state now signer i : ℕ) → SameWritten (close_receipt state now signer i K) (close_receipt state now signer i L)
unfolding close_receipt
same_close K L a state now signer i = same_put_receipt _ _ (same_put_receipt _ _ (same_put_receipt K L a i _ state) i _ now) i _ signer

pub same_end : (K L : Ledger) → SameWritten K L → 8 ≤ L.edition.escrow → (state now signer i : ℕ) → i < escrow_count L
    → SameWritten (end_escrow state now signer i K) (end_escrow state now signer i L)
unfolding end_escrow
same_end K L a wide state now signer i i< =
    let w = escrow_same K L a wide i i< in
    let closed = same_put_escrow _ _ (same_put_escrow _ _ (same_put_escrow K L a i _ state) i _ now) i _ signer in
    rw (w FROM (lit< tt), w TO (lit< tt), w ESCROW_AMOUNT (lit< tt))
    (same_raise _ _ (same_lower _ _ closed LOCKED _ _ (lit< tt)) BALANCE _ _ (lit< tt))
