-- Laws of little-endian numbers, once for every width: the number of a number's bytes is the number, and the bytes of the number that
-- stands at a place are those that stand there.
use mathlib.Core.Path.{◌≡◌, refl, sym, ap, ap₂, ◌∙◌, subst}
use mathlib.Core.List.{List, [], ◌∷◌, ◌++◌, map}
use Prim.Native.Nat.{ℕ, zero, suc, ◌+◌, ◌*◌, ◌/◌, ◌%◌, ◌^◌, ◌≤◌, ◌<◌}
use native.Mathlib.Nat.{pow-suc}
use native.Mathlib.Numerals.{add-one}
use native.Mathlib.Omega.{arith}
use lib.ListN.{get_or, length, take, drop}
use lib.Seq.{drop-cons, take-add, drop-drop, get_or-append-add}
use Rattle.rules.specs.Record.{le_at, le_bytes, word_bytes}
use Rattle.rules.specs.Promises.{Bytes}

-- every word of a list is below m
abbrev pub AllBelow : ℕ → List ℕ → Type 0
AllBelow m [] = Unit {0}
AllBelow m (x ∷ xs) = (x < m) × AllBelow m xs

pub le_length : (n x : ℕ) → length (le_bytes n x) ≡ n
le_length zero x = refl
le_length (suc n) x = ap suc (le_length n (x / 256))

-- the number that n bytes of x say: `le_at` computes to it where those bytes stand
abbrev pub le_sum : ℕ → ℕ → ℕ
le_sum zero x = 0
le_sum (suc n) x = x % 256 + 256 * le_sum n (x / 256)

pub sum_is : (n x : ℕ) → x < 256 ^ n → le_sum n x ≡ x
sum_is zero x h = omega arith
sum_is (suc n) x h =
    let k : x < 256 ^ n * 256 = subst (λ (m : ℕ). x < m) (pow-suc 256 n) h in
    let e : le_sum n (x / 256) ≡ x / 256 = sum_is n (x / 256) (omega arith) in
    omega arith

pub sums_are : (n : ℕ) (ws : List ℕ) → AllBelow (256 ^ n) ws → map (le_sum n) ws ≡ ws
sums_are n [] h = refl
sums_are n (w ∷ ws) h = ap₂ (λ (x : ℕ) (xs : List ℕ). x ∷ xs) (sum_is n w h.0) (sums_are n ws h.1)

-- a number that stands behind other bytes
pub le_behind : (n : ℕ) (p r : List ℕ) (q : ℕ) → le_at n (p ++ r) (length p + q) ≡ le_at n r q
le_behind zero p r q = refl
le_behind (suc n) p r q =
    let e : length p + q + 1 ≡ length p + (q + 1) = omega arith in
    rw (get_or-append-add p r q 0, e, le_behind n p r (q + 1))

-- the bytes of the number at p are those that stand there
pub bytes_are : (n : ℕ) (s : List ℕ) (p : ℕ) → Bytes s → p + n ≤ length s → le_bytes n (le_at n s p) ≡ take n (drop p s)
bytes_are zero s p b h = refl
bytes_are (suc n) s p b h =
    let i : p < length s = omega arith in
    let m : (get_or s p 0 + 256 * le_at n s (p + 1)) % 256 ≡ get_or s p 0 = omega (arith, b p) in
    let d : (get_or s p 0 + 256 * le_at n s (p + 1)) / 256 ≡ le_at n s (p + 1) = omega (arith, b p) in
    let r : le_bytes n (le_at n s (p + 1)) ≡ take n (drop (suc p) s) =
    bytes_are n s (p + 1) b (omega arith) ∙ ap (λ (q : ℕ). take n (drop q s)) (add-one p) in
    rw (m, d, r, drop-cons s p 0 i)

-- the n words from place p on, and their bytes
abbrev pub words_at : ℕ → List ℕ → ℕ → List ℕ
words_at zero s p = []
words_at (suc n) s p = le_at 8 s p ∷ words_at n s (p + 8)

pub words_are : (n : ℕ) (s : List ℕ) (p : ℕ) → Bytes s → p + 8 * n ≤ length s → word_bytes (words_at n s p) ≡ take (8 * n) (drop p s)
words_are zero s p b h = refl
words_are (suc n) s p b h =
    let e : 8 * suc n ≡ 8 + 8 * n = omega arith in
    ap (λ (l : List ℕ). l ++ word_bytes (words_at n s (p + 8))) (bytes_are 8 s p b (omega arith))
    ∙ ap (λ (l : List ℕ). take 8 (drop p s) ++ l)
    (words_are n s (p + 8) b (omega arith) ∙ ap (λ (l : List ℕ). take (8 * n) l) (sym (drop-drop 8 p s)))
    ∙ sym (take-add 8 (8 * n) (drop p s))
    ∙ ap (λ (k : ℕ). take k (drop p s)) (sym e)
