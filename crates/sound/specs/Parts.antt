-- The parts of a ledger that the passes of `is_sound` see, each as a ledger of those tables alone, so that the tests are the definitions' own.
use Rattle.std.specs.Prelude.{◌≡◌, Bool, true, ◌&&◌, List, [], ◌∷◌, ℕ, ◌+◌, ◌*◌, ◌≤◌, ◌<◌, eqb, get_or, length}
use Rattle.rules.specs.Limits.{HEADER_LEN, ESCROW_LEN, WALLET_LEN, MAX_WALLETS, MAX_ESCROWS, ID, LOCKED}
use Rattle.rules.specs.Table.{word, all, every, distinct, sum}
use Rattle.rules.specs.Ledger.{Ledger, ledger, ledger_of}
use Rattle.rules.specs.declared.Edition.{Edition}
use Rattle.rules.specs.Sound.{escrow_tests, held_in}
use Rattle.index.specs.Index.{NUMBERS}

-- an edition with escrow rows of len words: a pass asks for no more of it
abbrev pub of_length : ℕ → Edition
of_length len = record { number = 0; header = HEADER_LEN; escrow = len }

-- a header with the rows written in wallets and escrows
abbrev pub counts : ℕ → ℕ → List ℕ
counts n m = 0 ∷ 0 ∷ 0 ∷ 0 ∷ n ∷ m ∷ 0 ∷ 0 ∷ []

-- n wallets
abbrev pub wallets_in : List ℕ → ℕ → Ledger
wallets_in w n = ledger (counts n 0) w [] [] []

-- n wallets and m escrows
abbrev pub parties : ℕ → List ℕ → ℕ → List ℕ → ℕ → Ledger
parties len w n e m = ledger_of (of_length len) (counts n m) w e [] []

-- m escrows, and receipts
abbrev pub receipts_in : ℕ → List ℕ → ℕ → List ℕ → Ledger
receipts_in len e m r = ledger_of (of_length len) (counts 0 m) [] e r []

abbrev pub entries_in : List ℕ → Ledger
entries_in j = ledger [] [] [] [] j

-- n wallets and m escrows are within their tables, and those within their limits
pub record Tables (len : ℕ) (w : List ℕ) (n : ℕ) (e : List ℕ) (m : ℕ) : Type 0 where
  pub wide : ESCROW_LEN ≤ len
  pub wallets : n * WALLET_LEN ≤ length w
  pub few : n ≤ MAX_WALLETS
  pub escrows : m * len ≤ length e
  pub fewer : m ≤ MAX_ESCROWS

-- what the first k escrows hold of wallet i
abbrev pub held_of : ℕ → List ℕ → List ℕ → ℕ → ℕ → ℕ
held_of len w e k i = sum k (held_in (parties len w 0 e 0) (word w WALLET_LEN i ID))

-- the sums of the first n wallets over the first k escrows, by the wallets' numbers
pub record Held (len : ℕ) (w : List ℕ) (n : ℕ) (e : List ℕ) (k : ℕ) (sums : List ℕ) : Type 0 where
  pub room : length sums ≡ NUMBERS
  pub sum : (i : ℕ) → i < n → get_or sums (i + 1) 0 ≡ held_of len w e k i

-- every escrow is right, and then the sums are those over all
pub record HeldAll (len : ℕ) (w : List ℕ) (n : ℕ) (e : List ℕ) (m : ℕ) (sums : List ℕ) (r : Bool) : Type 0 where
  pub right : r ≡ every m (λ i. all (escrow_tests (parties len w n e m) i))
  pub held : r ≡ true → Held len w n e m sums

-- wallet i's locked is its sum
abbrev pub locked_is : List ℕ → List ℕ → ℕ → Bool
locked_is w sums i = eqb (word w WALLET_LEN i LOCKED) (get_or sums (i + 1) 0)

-- ids differ, every escrow is right, and each wallet's locked is what its open escrows hold
unfoldable pub parties_right : ℕ → List ℕ → ℕ → List ℕ → ℕ → Bool
parties_right len w n e m =
    distinct n (λ i. word w WALLET_LEN i ID)
    && (every m (λ i. all (escrow_tests (parties len w n e m) i))
    && every n (λ i. eqb (word w WALLET_LEN i LOCKED) (held_of len w e m i)))
