-- One row: what the reader's tests of its words say of the definitions' tests. The amount of a row that pays is right just if it is not 0 and not
-- more than the most; a time counts from the day before on; times are right just if all of them together, bit by bit, are a time.
use mathlib.Core.Path.{◌≡◌, refl}
use mathlib.Core.Bool.{Bool, true, false, not, cond, ◌&&◌, ◌||◌}
use Prim.Native.Nat.{ℕ, ◌+◌, ◌-◌, ◌<◌}
use native.Mathlib.Omega.{arith}
use lib.Dec.{eqb, ltb, leb}
use lib.Bits.{bit_or, or_lt, or_add_and, and_le_l, and_le_r}
use borrow.Author.Tests.{eqb-false, ltb-false, leb-true, ne_eqb, le-ltb, le-leb, not-true}
use Rattle.std.specs.Cmp.{both_ways}
use Rattle.rules.specs.Limits.{DAY_MS, MAX_AMOUNT_MICRO, LAST_TIME_MS}
use Rattle.rules.specs.Sound.{between, time}
use Rattle.rules.proofs.Bools.{and_intro, and_fst, and_snd, or_none_fst, or_none_snd}

-- the reader's test: what a row pays is 0 or too much. Of a row that does not pay, `shown` is another number, and the sum 0.
abbrev pub fails : ℕ → ℕ → Bool
fails shown sum = eqb shown 0 || ltb MAX_AMOUNT_MICRO sum

within_is : (a : ℕ) → between 1 MAX_AMOUNT_MICRO a ≡ not (fails a a)
within_is a = both_ways (between 1 MAX_AMOUNT_MICRO a) (not (fails a a)) there back
  where
    there : between 1 MAX_AMOUNT_MICRO a ≡ true → not (fails a a) ≡ true
    there t =
        let low = leb-true 1 a (and_fst (leb 1 a) (leb a MAX_AMOUNT_MICRO) t) in
        let high = leb-true a MAX_AMOUNT_MICRO (and_snd (leb 1 a) (leb a MAX_AMOUNT_MICRO) t) in
        rw (ne_eqb a 0 (omega (arith, low)), le-ltb MAX_AMOUNT_MICRO a high)

    back : not (fails a a) ≡ true → between 1 MAX_AMOUNT_MICRO a ≡ true
    back t =
        let f = not-true (fails a a) t in
        let low = eqb-false a 0 (or_none_fst (eqb a 0) (ltb MAX_AMOUNT_MICRO a) f) in
        let high = ltb-false MAX_AMOUNT_MICRO a (or_none_snd (eqb a 0) (ltb MAX_AMOUNT_MICRO a) f) in
        and_intro (leb 1 a) (leb a MAX_AMOUNT_MICRO) (le-leb 1 a (omega (arith, low))) (le-leb a MAX_AMOUNT_MICRO high)

pub amount_is : (pays : Bool) (amount other shown sum : ℕ) → 0 < other → shown ≡ cond pays amount other → sum ≡ cond pays amount 0
    → (not pays || between 1 MAX_AMOUNT_MICRO amount) ≡ not (fails shown sum)
amount_is false amount other shown sum h p q = rw (p, q, ne_eqb other 0 (omega arith))
amount_is true amount other shown sum h p q = rw (p, q) (within_is amount)

-- what a row adds, as the reader picks it: what it pays, if its signer and its time are right
pub part_is : (mine transfer opens recent : Bool) (amount : ℕ)
    → cond (mine && recent) (cond (transfer || opens) amount 0) 0 ≡ cond (mine && ((transfer || (opens || false)) && recent)) amount 0
part_is false transfer opens recent amount = refl
part_is true true opens recent amount = refl
part_is true false true recent amount = refl
part_is true false false true amount = refl
part_is true false false false amount = refl

pub recent_is : (clock settled : ℕ) → leb (clock - DAY_MS) settled ≡ leb clock (settled + DAY_MS)
recent_is clock settled =
    both_ways (leb (clock - DAY_MS) settled) (leb clock (settled + DAY_MS))
    (λ t. le-leb clock (settled + DAY_MS) (omega (arith, leb-true (clock - DAY_MS) settled t)))
    (λ t. le-leb (clock - DAY_MS) settled (omega (arith, leb-true clock (settled + DAY_MS) t)))

pub times_are : (a b : ℕ) → time (bit_or a b) ≡ (time a && time b)
times_are a b = both_ways (time (bit_or a b)) (time a && time b) there back
  where
    there : time (bit_or a b) ≡ true → time a && time b ≡ true
    there t =
        let together = leb-true (bit_or a b) LAST_TIME_MS t in
        and_intro (time a) (time b) (le-leb a LAST_TIME_MS (omega (arith, together, or_add_and a b, and_le_r a b)))
        (le-leb b LAST_TIME_MS (omega (arith, together, or_add_and a b, and_le_l a b)))

    back : time a && time b ≡ true → time (bit_or a b) ≡ true
    back t =
        let first = leb-true a LAST_TIME_MS (and_fst (time a) (time b) t) in
        let second = leb-true b LAST_TIME_MS (and_snd (time a) (time b) t) in
        le-leb (bit_or a b) LAST_TIME_MS (omega (arith, or_lt 48 a b (omega (arith, first)) (omega (arith, second))))
