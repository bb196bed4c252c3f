-- The named lists of tests of a ledger as facts: for each list a record with a field for each test, and one law that gives it where the list
-- holds. The place of a test in its list stands here and nowhere else, so a test that is put in between moves one law.
use mathlib.Core.Path.{◌≡◌}
use mathlib.Core.Logic.{◌≢◌}
use mathlib.Core.List.{List, [], ◌∷◌}
use mathlib.Core.Bool.{true, not, ◌||◌}
use Prim.Native.Nat.{ℕ, ◌%◌, ◌≤◌, ◌<◌}
use native.Mathlib.Nat.{le_trans}
use native.Mathlib.Omega.{arith}
use lib.ListN.{length}
use lib.Dec.{eqb, ltb, leb}
use borrow.Author.Tests.{eqb-true, eqb-false, ltb-true, leb-true, not-true}
use Rattle.rules.specs.Limits.{HEADER_LEN, WALLET_LEN, RECEIPT_LEN, JOURNAL_LEN, MAX_WALLETS, MAX_ESCROWS, MAX_RECEIPTS, MAX_ENTRIES}
use Rattle.rules.specs.Limits.{LAST_TIME_MS, MAX_AMOUNT_MICRO, MAX_GRANTED_MICRO, TRANSFER, OPEN}
use Rattle.rules.specs.Limits.{EDITION, SYSTEM_FROZEN, CLOCK, GRANTED, ID, LOCKED, FROZEN, IS_CLOSED}
use Rattle.rules.specs.Limits.{FROM, TO, ESCROW_AMOUNT, ESCROW_DEADLINE, ESCROW_STATE, OPENED_AT, ESCROW_CLOSED_AT}
use Rattle.rules.specs.Limits.{ACCEPTANCE_DEADLINE, AUTO_ACCEPT, RECEIPT_STATE, CLAIMED_AT, RECEIPT_CLOSED_AT, OPERATION, ENTRY_AMOUNT, SETTLED_AT}
use Rattle.rules.specs.Table.{word, rows_in, table_right, all, distinct, sum}
use Rattle.rules.specs.Ledger.{Ledger, head, wallet, escrow, entry, wallet_count, escrow_count, receipt_count, entry_count, wallet_row, written, length_tests, lengths_right}
use Rattle.rules.specs.Sound.{between, header_tests, wallet_tests, escrow_tests, link_right, receipt_tests, entry_tests, held_in, credits, sound_tests, sound}
use Rattle.rules.specs.Promises.{Within}
use Rattle.rules.proofs.Bools.{and_fst, and_snd, all_at}
use Rattle.rules.proofs.Counts.{every_at}

-- ---- two bounds

bounds : (a b x : ℕ) → between a b x ≡ true → (a ≤ x) × (x ≤ b)
bounds a b x h = (leb-true a x (and_fst (leb a x) (leb x b) h), leb-true x b (and_snd (leb a x) (leb x b) h))

-- the number of one of n written rows
pub written_low : (n k : ℕ) → written n k ≡ true → 1 ≤ k
written_low n k h = ltb-true 0 k (and_fst (ltb 0 k) (leb k n) h)

pub written_high : (n k : ℕ) → written n k ≡ true → k ≤ n
written_high n k h = leb-true k n (and_snd (ltb 0 k) (leb k n) h)

-- ---- the lengths

pub record RightTable (len most : ℕ) (t : List ℕ) : Type 0 where
  pub one : len ≤ length t
  pub whole : length t % len ≡ 0
  pub few : rows_in len t ≤ most

table_says : (len most : ℕ) (t : List ℕ) → table_right len most t ≡ true → RightTable len most t
table_says len most t h =
    let at = all_at (leb len (length t) ∷ eqb (length t % len) 0 ∷ leb (rows_in len t) most ∷ []) h in
    record { one = leb-true _ _ (at 0); whole = eqb-true _ _ (at 1); few = leb-true _ _ (at 2) }

pub record RightLengths (L : Ledger) : Type 0 where
  pub header : length L.header ≡ L.edition.header
  pub wallets : RightTable WALLET_LEN MAX_WALLETS L.wallets
  pub escrows : RightTable L.edition.escrow MAX_ESCROWS L.escrows
  pub receipts : RightTable RECEIPT_LEN MAX_RECEIPTS L.receipts
  pub journal : RightTable JOURNAL_LEN MAX_ENTRIES L.journal

pub lengths_say : (L : Ledger) → lengths_right L ≡ true → RightLengths L
unfolding lengths_right
lengths_say L h =
    let at = all_at (length_tests L) h in
    record {
      header = eqb-true _ _ (at 0);
      wallets = table_says WALLET_LEN MAX_WALLETS L.wallets (at 1);
      escrows = table_says L.edition.escrow MAX_ESCROWS L.escrows (at 2);
      receipts = table_says RECEIPT_LEN MAX_RECEIPTS L.receipts (at 3);
      journal = table_says JOURNAL_LEN MAX_ENTRIES L.journal (at 4);
    }

-- the header has all the named words
pub header_wide : (L : Ledger) → lengths_right L ≡ true → HEADER_LEN ≤ L.edition.header → HEADER_LEN ≤ length L.header
header_wide L h wide = omega (arith, (lengths_say L h).header, wide)

-- a count within a table of right length is at most the table's most rows
pub record Few (L : Ledger) : Type 0 where
  pub wallets : wallet_count L ≤ MAX_WALLETS
  pub escrows : escrow_count L ≤ MAX_ESCROWS
  pub receipts : receipt_count L ≤ MAX_RECEIPTS
  pub journal : entry_count L ≤ MAX_ENTRIES

pub counts_few : (L : Ledger) → lengths_right L ≡ true → Within L → Few L
counts_few L h within =
    let tables = lengths_say L h in
    record {
      wallets = le_trans within.wallets tables.wallets.few;
      escrows = le_trans within.escrows tables.escrows.few;
      receipts = le_trans within.receipts tables.receipts.few;
      journal = le_trans within.journal tables.journal.few;
    }

-- ---- the header, and one row of each table

pub record RightHeader (L : Ledger) : Type 0 where
  pub edition : head L EDITION ≡ L.edition.number
  pub flag : head L SYSTEM_FROZEN ≤ 1
  pub clock : head L CLOCK ≤ LAST_TIME_MS
  pub within : Within L

pub header_says : (L : Ledger) → all (header_tests L) ≡ true → RightHeader L
header_says L h =
    let at = all_at (header_tests L) h in
    record {
      edition = eqb-true _ _ (at 0);
      flag = leb-true _ _ (at 1);
      clock = leb-true _ _ (at 2);
      within = record { wallets = leb-true _ _ (at 3); escrows = leb-true _ _ (at 4); receipts = leb-true _ _ (at 5); journal = leb-true _ _ (at 6) };
    }

abbrev pub State : ℕ → Type 0
State x = (1 ≤ x) × (x ≤ 4)

pub record WRow (t : List ℕ) (i : ℕ) : Type 0 where
  pub id : 0 < word t WALLET_LEN i ID
  pub frozen : word t WALLET_LEN i FROZEN ≤ IS_CLOSED

pub wallet_says : (L : Ledger) (i : ℕ) → all (wallet_tests L i) ≡ true → WRow L.wallets i
wallet_says L i h =
    let at = all_at (wallet_tests L i) h in
    let id≢ : wallet L i ID ≢ 0 = eqb-false (wallet L i ID) 0 (not-true _ (at 0)) in
    record { id = omega arith; frozen = leb-true _ _ (at 1) }

pub record ERow (t : List ℕ) (len i : ℕ) : Type 0 where
  pub parties : word t len i FROM ≢ word t len i TO
  pub low : 1 ≤ word t len i ESCROW_AMOUNT
  pub high : word t len i ESCROW_AMOUNT ≤ MAX_AMOUNT_MICRO
  pub until : word t len i ESCROW_DEADLINE ≤ LAST_TIME_MS
  pub opened : word t len i OPENED_AT ≤ LAST_TIME_MS
  pub closed : word t len i ESCROW_CLOSED_AT ≤ LAST_TIME_MS
  pub state : State (word t len i ESCROW_STATE)

-- the two wallets are found, and the row is right by itself
pub record RightEscrow (L : Ledger) (i : ℕ) : Type 0 where
  pub from : wallet_row L (escrow L i FROM) < wallet_count L
  pub to : wallet_row L (escrow L i TO) < wallet_count L
  pub own : ERow L.escrows L.edition.escrow i

pub escrow_says : (L : Ledger) (i : ℕ) → all (escrow_tests L i) ≡ true → RightEscrow L i
escrow_says L i h =
    let at = all_at (escrow_tests L i) h in
    let amount = bounds 1 MAX_AMOUNT_MICRO (escrow L i ESCROW_AMOUNT) (at 3) in
    record {
      from = ltb-true _ _ (at 0);
      to = ltb-true _ _ (at 1);
      own = record {
        parties = eqb-false _ _ (not-true _ (at 2));
        low = amount.0;
        high = amount.1;
        until = leb-true _ _ (at 4);
        opened = leb-true _ _ (at 5);
        closed = leb-true _ _ (at 6);
        state = bounds 1 4 _ (at 7);
      };
    }

pub record RRow (t : List ℕ) (i : ℕ) : Type 0 where
  pub until : word t RECEIPT_LEN i ACCEPTANCE_DEADLINE ≤ LAST_TIME_MS
  pub claimed : word t RECEIPT_LEN i CLAIMED_AT ≤ LAST_TIME_MS
  pub closed : word t RECEIPT_LEN i RECEIPT_CLOSED_AT ≤ LAST_TIME_MS
  pub auto : word t RECEIPT_LEN i AUTO_ACCEPT ≤ 1
  pub state : State (word t RECEIPT_LEN i RECEIPT_STATE)

pub record RightReceipt (L : Ledger) (i : ℕ) : Type 0 where
  pub link : link_right L i ≡ true
  pub own : RRow L.receipts i

pub receipt_says : (L : Ledger) (i : ℕ) → all (receipt_tests L i) ≡ true → RightReceipt L i
receipt_says L i h =
    let at = all_at (receipt_tests L i) h in
    record {
      link = at 0;
      own = record {
        until = leb-true _ _ (at 1);
        claimed = leb-true _ _ (at 2);
        closed = leb-true _ _ (at 3);
        auto = leb-true _ _ (at 4);
        state = bounds 1 4 _ (at 5);
      };
    }

pub record RightEntry (L : Ledger) (i : ℕ) : Type 0 where
  pub time : entry L i SETTLED_AT ≤ LAST_TIME_MS
  pub amount : not (eqb (entry L i OPERATION) TRANSFER || eqb (entry L i OPERATION) OPEN) || between 1 MAX_AMOUNT_MICRO (entry L i ENTRY_AMOUNT) ≡ true

pub entry_says : (L : Ledger) (i : ℕ) → all (entry_tests L i) ≡ true → RightEntry L i
entry_says L i h = let at = all_at (entry_tests L i) h in record { time = leb-true _ _ (at 0); amount = at 1 }

-- ---- all of them

pub record RightLedger (L : Ledger) : Type 0 where
  pub header : RightHeader L
  pub wallets : (i : ℕ) → i < wallet_count L → WRow L.wallets i
  pub apart : distinct (wallet_count L) (λ i. wallet L i ID) ≡ true
  pub escrows : (i : ℕ) → i < escrow_count L → RightEscrow L i
  pub receipts : (i : ℕ) → i < receipt_count L → RightReceipt L i
  pub journal : (i : ℕ) → i < entry_count L → all (entry_tests L i) ≡ true
  pub locked : (i : ℕ) → i < wallet_count L → wallet L i LOCKED ≡ sum (escrow_count L) (held_in L (wallet L i ID))
  pub total : credits L ≡ head L GRANTED
  pub most : head L GRANTED ≤ MAX_GRANTED_MICRO

pub sound_says : (L : Ledger) → sound L ≡ true → RightLedger L
unfolding sound
sound_says L h =
    let at = all_at (sound_tests L) h in
    record {
      header = header_says L (at 0);
      wallets = λ i l. wallet_says L i (every_at (wallet_count L) (λ i. all (wallet_tests L i)) (at 1) i l);
      apart = at 2;
      escrows = λ i l. escrow_says L i (every_at (escrow_count L) (λ i. all (escrow_tests L i)) (at 3) i l);
      receipts = λ i l. receipt_says L i (every_at (receipt_count L) (λ i. all (receipt_tests L i)) (at 4) i l);
      journal = every_at (entry_count L) (λ i. all (entry_tests L i)) (at 5);
      locked = λ i l. eqb-true _ _ (every_at (wallet_count L) (λ i. eqb (wallet L i LOCKED) (sum (escrow_count L) (held_in L (wallet L i ID)))) (at 6) i l);
      total = eqb-true _ _ (at 7);
      most = leb-true _ _ (at 8);
    }
