-- What the functions over rows rest on: a row's start is small, one more word of a row that is written, one more row that is passed over.
use mathlib.Core.Path.{◌≡◌, sym, ap, ap₂, ◌∙◌}
use mathlib.Core.List.{List}
use mathlib.Core.Bool.{false}
use Prim.Native.Nat.{ℕ, suc, ◌+◌, ◌*◌, ◌^◌, ◌≤◌, ◌<◌}
use native.Mathlib.Nat.{le_of_lt, mul-le-mul}
use native.Mathlib.Numerals.{add-one}
use native.Mathlib.Omega.{arith}
use lib.Dec.{eqb}
use lib.ListN.{get_or, length, drop, drop_of_length-le}
use lib.Seq.{sets, drop-cons}
use borrow.Author.Count.{below_none, below_more}
use borrow.Author.Tests.{eq-eqb, ne_eqb}
use Rattle.rules.specs.Limits.{WALLET_LEN, ID}
use Rattle.rules.specs.Table.{word, put, put_row}
use Rattle.rules.specs.Ledger.{row_of}
use Rattle.rules.proofs.Seek.{seek_at, seek_not, seek_le}

-- a row's start is small
pub start : {row len : ℕ} → row < 2 ^ 32 → len < 2 ^ 16 → row * len ≤ 2 ^ 32 * 2 ^ 16
start hr hl = mul-le-mul (le_of_lt hr) (le_of_lt hl)

-- the words vs from word k of a row on
unfoldable pub row_from : List ℕ → ℕ → ℕ → ℕ → List ℕ → List ℕ
row_from t len row k vs = sets t (row * len + k) (drop k vs)

pub row_all : (t : List ℕ) (len row : ℕ) (vs : List ℕ) → put_row t len row vs ≡ row_from t len row 0 vs
unfolding row_from
row_all t len row vs = let e : row * len ≡ row * len + 0 = omega arith in ap (λ (i : ℕ). sets t i vs) e

pub row_next : (t t' : List ℕ) (len row k : ℕ) (vs : List ℕ) → k < length vs → t' ≡ put t len row k (get_or vs k 0) → row_from t len row k vs ≡ row_from t' len row (k + 1) vs
unfolding row_from
row_next t t' len row k vs h x =
    let e : suc (row * len + k) ≡ row * len + (k + 1) = omega arith in
    ap (sets t (row * len + k)) (drop-cons vs k 0 h)
    ∙ ap₂ (λ (i d : ℕ). sets (put t len row k (get_or vs k 0)) i (drop d vs)) e (sym (add-one k))
    ∙ ap (λ (l : List ℕ). sets l (row * len + (k + 1)) (drop (k + 1) vs)) (sym x)

pub row_done : (t : List ℕ) (len row k : ℕ) (vs : List ℕ) → length vs ≤ k → row_from t len row k vs ≡ t
unfolding row_from
row_done t len row k vs h = rw (drop_of_length-le vs h)

-- none of the first i wallets has the id
unfoldable pub Passed : List ℕ → ℕ → ℕ → Type 0
Passed t id i = (j : ℕ) → j < i → eqb (word t WALLET_LEN j ID) id ≡ false

pub pass_none : (t : List ℕ) (id : ℕ) → Passed t id 0
unfolding Passed
pass_none t id = below_none _

pub pass : (t : List ℕ) (id i : ℕ) → Passed t id i → (word t WALLET_LEN i ID ≡ id → ⊥) → Passed t id (i + 1)
unfolding Passed
pass t id i h x = below_more _ i h (ne_eqb _ _ x)

-- so the next that has it is its row; and if none is left, there is none
pub found : (t : List ℕ) (n id i : ℕ) → i < n → Passed t id i → word t WALLET_LEN i ID ≡ id → i ≡ row_of t n id
unfolding row_of Passed
found t n id i l h x = sym (seek_at n (λ j. eqb (word t WALLET_LEN j ID) id) i l h (eq-eqb _ _ x))

pub none : (t : List ℕ) (n id i : ℕ) → n ≤ i → Passed t id i → n ≡ row_of t n id
unfolding row_of Passed
none t n id i l h = sym (seek_not n (λ j. eqb (word t WALLET_LEN j ID) id) (λ j k. h j (omega arith)))

-- either way it is a row of the table, or the one behind the last
pub row_most : (t : List ℕ) (n id : ℕ) {r : ℕ} → r ≡ row_of t n id → r ≤ n
unfolding row_of
row_most t n id x = omega (arith, x, seek_le n (λ j. eqb (word t WALLET_LEN j ID) id))
