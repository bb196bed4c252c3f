-- What the contracts of the index say. An index is two arrays: the wallets' ids by their numbers, and places, each of which proposes a number,
-- or 0 for none. The walk of an id starts at a root, by its low bits, and goes on to a branch of the wallet that it meets, by the next bits.
use Rattle.std.specs.Prelude.{◌≡◌, Bool, true, not, cond, List, ℕ, zero, suc, ◌+◌, ◌*◌, ◌%◌, ◌/◌, ◌≤◌, ◌<◌, eqb, ltb, get_or, set, length, Option, None, Some, is_some}
use Rattle.rules.specs.Limits.{WALLET_LEN, MAX_WALLETS, ID}
use Rattle.rules.specs.Table.{word, distinct}
use Rattle.rules.specs.Ledger.{row_of}
use Rattle.rules.specs.Wallets.{numbered}
use Rattle.rules.specs.declared.WalletNumber.{WalletNumber}

abbrev pub ROOTS : ℕ
ROOTS = 8192

abbrev pub BRANCHES : ℕ
BRANCHES = 32

-- ROOTS, and BRANCHES for each number
abbrev pub PLACES : ℕ
PLACES = 40992

abbrev pub STEPS : ℕ
STEPS = 12

-- wallet numbers, and 0
abbrev pub NUMBERS : ℕ
NUMBERS = 1025

-- the id of row i, which stands at its number
abbrev pub id_at : List ℕ → ℕ → ℕ
id_at ids i = get_or ids (i + 1) 0

-- row j has another id than row i
abbrev pub differs : List ℕ → ℕ → ℕ → Bool
differs ids i j = not (eqb (id_at ids j) (id_at ids i))

-- the ids of the first n wallets
pub record Copied (w : List ℕ) (n : ℕ) (ids : List ℕ) : Type 0 where
  pub room : length ids ≡ NUMBERS
  pub same : (i : ℕ) → i < n → id_at ids i ≡ word w WALLET_LEN i ID

-- every place proposes one of n numbers, or none
pub record Within (n : ℕ) (t : List ℕ) : Type 0 where
  pub room : length t ≡ PLACES
  pub most : (p : ℕ) → get_or t p 0 ≤ n

-- the number that has the id x and that its walk meets, in f steps from the place p on, where y is what is left of the id; 0 for none
unfoldable pub walked : List ℕ → List ℕ → ℕ → ℕ → ℕ → ℕ → ℕ
walked ids t x zero p y = 0
walked ids t x (suc f) p y =
    cond (eqb (get_or t p 0) 0) 0
    (cond (eqb (get_or ids (get_or t p 0) 0) x) (get_or t p 0)
    (walked ids t x f (ROOTS + get_or t p 0 * BRANCHES + y % BRANCHES) (y / BRANCHES)))

unfoldable pub walk : List ℕ → List ℕ → ℕ → ℕ
walk ids t x = walked ids t x STEPS (x % ROOTS) (x / ROOTS)

-- the walk of the id x ends at a free place, and meets a number that has the id once it is put there
pub record Seated (ids t : List ℕ) (x place : ℕ) : Type 0 where
  pub room : place < PLACES
  pub free : get_or t place 0 ≡ 0
  pub leads : (v : ℕ) → 0 < v → get_or ids v 0 ≡ x → walk ids (set t place v) x ≡ v

-- the first n wallets are in the index; two of them have the same id exactly if `most` is none
pub record Filled (ids : List ℕ) (n : ℕ) (t : List ℕ) (most : Option ℕ) : Type 0 where
  pub within : Within n t
  pub right : is_some most ≡ distinct n (id_at ids)

-- a wallet's number that has the id x
pub record Hit (ids : List ℕ) (n x r : ℕ) : Type 0 where
  pub low : 0 < r
  pub high : r ≤ n
  pub has : get_or ids r 0 ≡ x

-- the number s as a wallet's, if it is one
abbrev pub wallet_number : ℕ → Option WalletNumber
wallet_number s = cond (eqb s 0) None (Some (record { 0 = s }))

-- what a look-up goes by
pub record Indexed (w : List ℕ) (n : ℕ) (ids t : List ℕ) : Type 0 where
  pub rows : n * WALLET_LEN ≤ length w
  pub few : n ≤ MAX_WALLETS
  pub copied : Copied w n ids
  pub apart : distinct n (id_at ids) ≡ true
  pub within : Within n t

-- the number of the wallet of id x, among the first n, if there is one
unfoldable pub number_of : List ℕ → ℕ → ℕ → Option WalletNumber
number_of w n x = cond (ltb (row_of w n x) n) (Some (numbered (row_of w n x))) None

-- the number of the wallet of `from`, where `to` has a wallet too
unfoldable pub sender_of : List ℕ → ℕ → ℕ → ℕ → Option WalletNumber
sender_of w n from to = cond (ltb (row_of w n to) n) (number_of w n from) None
