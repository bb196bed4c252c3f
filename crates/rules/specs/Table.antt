-- Words and rows of a lent table, and what is said of the first n of something. A row is counted from 0 here; its number is one more.
use Rattle.std.specs.Prelude.{List, [], ◌∷◌, Bool, true, false, not, cond, ◌&&◌, ◌||◌, ℕ, zero, suc, ◌+◌, ◌*◌, ◌/◌, ◌%◌, get_or, set, length, eqb, leb}
use Rattle.std.proofs.lemmas.List.Edits.{sets}

-- word k of a row of len words; 0 past the end
abbrev pub word : List ℕ → ℕ → ℕ → ℕ → ℕ
word t len row k = get_or t (row * len + k) 0

-- the table with v there
abbrev pub put : List ℕ → ℕ → ℕ → ℕ → ℕ → List ℕ
put t len row k v = set t (row * len + k) v

-- the table with the words vs as a row
abbrev pub put_row : List ℕ → ℕ → ℕ → List ℕ → List ℕ
put_row t len row vs = sets t (row * len) vs

-- how many rows a table has
abbrev pub rows_in : ℕ → List ℕ → ℕ
rows_in len t = length t / len

-- every test of a list holds
abbrev pub all : List Bool → Bool
all [] = true
all (b ∷ []) = b
all (b ∷ c ∷ bs) = b && all (c ∷ bs)

-- a table has at least one row, a whole number of rows, and at most `most`
abbrev pub table_right : ℕ → ℕ → List ℕ → Bool
table_right len most t = all (leb len (length t) ∷ eqb (length t % len) 0 ∷ leb (rows_in len t) most ∷ [])

-- the sum of f below n
unfoldable pub sum : ℕ → (ℕ → ℕ) → ℕ
sum zero f = 0
sum (suc n) f = sum n f + f n

-- p holds of every number below n
unfoldable pub every : ℕ → (ℕ → Bool) → Bool
every zero p = true
every (suc n) p = every n p && p n

-- p holds of a number below n
unfoldable pub some : ℕ → (ℕ → Bool) → Bool
some zero p = false
some (suc n) p = some n p || p n

-- no two numbers below n have the same f
abbrev pub distinct : ℕ → (ℕ → ℕ) → Bool
distinct n f = every n (λ i. every i (λ j. not (eqb (f j) (f i))))

-- the first number below n of which p holds, or n
unfoldable pub seek : ℕ → (ℕ → Bool) → ℕ
seek zero p = zero
seek (suc n) p = cond (p zero) zero (suc (seek n (λ i. p (suc i))))

-- f 0, then f 1, .. f (n - 1)
unfoldable pub loop : {S : Type 0} → ℕ → (ℕ → S → S) → S → S
loop zero f s = s
loop (suc n) f s = f n (loop n f s)
