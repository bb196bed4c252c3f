-- The rows read so far, the newest first. All n rows are right just if the rows still to be read are and no time was too late; what is seen and
-- counted in n rows is what is seen and counted in those, or was found.
use mathlib.Core.Path.{◌≡◌, refl, sym, ap, ◌∙◌, subst}
use mathlib.Core.Bool.{Bool, true, false, not, cond, ◌&&◌, ◌||◌, and-true, and-false}
use mathlib.Core.List.{List}
use Prim.Native.Nat.{ℕ, ◌+◌, ◌-◌, ◌*◌, ◌≤◌, ◌<◌}
use native.Mathlib.Nat.{zero-add}
use native.Mathlib.Numerals.{add-one}
use native.Mathlib.Omega.{arith}
use lib.Dec.{eqb, ltb, leb}
use lib.Bits.{bit_or}
use lib.ListN.{get_or}
use borrow.Author.Tests.{ltb-false, lt-ltb, le-leb, lt-leb}
use Rattle.rules.specs.Limits.{JOURNAL_LEN, MAX_AMOUNT_MICRO, LAST_TIME_MS, DAY_MS, TRANSFER, OPEN, SIGNER, NONCE, OPERATION, ENTRY_AMOUNT, SETTLED_AT}
use Rattle.rules.specs.Table.{word, all, every, some, sum}
use Rattle.rules.specs.Sound.{time, entry_tests}
use Rattle.rules.specs.Refusals.{seen_in, counts, counted_of}
use Rattle.rules.proofs.Bools.{and_none_fst, and_none_snd, or_none_snd}
use Rattle.rules.proofs.Counts.{every_fails}
use Rattle.std.specs.Prelude.{Some, None}
use Rattle.reading.specs.Looks.{entries_in, looked}
use Rattle.reading.proofs.Row.{fails, amount_is, part_is, recent_is, times_are}

-- the tests of row i
abbrev right : List ℕ → ℕ → Bool
right j i = all (entry_tests (entries_in j) i)

-- the rows before this one are still to be read
pub record Sofar (j : List ℕ) (n signer nonce clock times found spent row : ℕ) : Type 0 where
  pub within : row ≤ n
  pub rights : every n (right j) ≡ (every row (right j) && time times)
  pub uses : seen_in j n signer nonce ≡ (seen_in j row signer nonce || ltb 0 found)
  pub spends : counted_of j n signer clock ≡ counted_of j row signer clock + spent
  pub most : spent + row * MAX_AMOUNT_MICRO ≤ n * MAX_AMOUNT_MICRO

-- the newest of i rows
module _ (i : ℕ) (h : 0 < i) where
  again : i ≡ i - 1 + 1
  again = omega arith

  every_newest : (p : ℕ → Bool) → every i p ≡ (every (i - 1) p && p (i - 1))
  unfolding every
  every_newest p = ap (λ m. every m p) again ∙ ap (λ m. every m p) (add-one (i - 1))

  some_newest : (p : ℕ → Bool) → some i p ≡ (some (i - 1) p || p (i - 1))
  unfolding some
  some_newest p = ap (λ m. some m p) again ∙ ap (λ m. some m p) (add-one (i - 1))

  sum_newest : (f : ℕ → ℕ) → sum i f ≡ sum (i - 1) f + f (i - 1)
  unfolding sum
  sum_newest f = ap (λ m. sum m f) again ∙ ap (λ m. sum m f) (add-one (i - 1))

-- a test put behind another
swap : (a b c : Bool) → (a && b) && c ≡ a && (c && b)
swap false b c = refl
swap true true c = sym (and-true c)
swap true false c = sym (and-false c)

-- a hit marked by a number that is not 0
marked : (a used : Bool) (mark found : ℕ) → 0 < mark → ((a || used) || ltb 0 found) ≡ (a || ltb 0 (cond used mark found))
marked true used mark found h = refl
marked false true mark found h = sym (lt-ltb 0 mark h)
marked false false mark found h = refl

-- what is chosen is at most what there is
chosen_most : (b : Bool) (x m : ℕ) → x ≤ m → cond b x 0 ≤ m
chosen_most true x m h = h
chosen_most false x m h = omega arith

-- the reader's view of the row at a place
module _ (j : List ℕ) (at : ℕ) where
  abbrev pub settled : ℕ
  settled = get_or j (at + SETTLED_AT) 0

  abbrev pub paid : ℕ → ℕ
  paid other = cond (eqb (get_or j (at + OPERATION) 0) TRANSFER || eqb (get_or j (at + OPERATION) 0) OPEN) (get_or j (at + ENTRY_AMOUNT) 0) other

  abbrev pub has : ℕ → ℕ → Bool
  has signer nonce = eqb (get_or j (at + SIGNER) 0) signer && eqb (get_or j (at + NONCE) 0) nonce

  abbrev pub picked : ℕ → ℕ → ℕ → ℕ
  picked signer since amount = cond (eqb (get_or j (at + SIGNER) 0) signer && leb since settled) amount 0

-- the newest of i rows, by its place
seen_newest : (j : List ℕ) (signer nonce i : ℕ) → 0 < i
    → seen_in j i signer nonce ≡ (seen_in j (i - 1) signer nonce || has j ((i - 1) * JOURNAL_LEN) signer nonce)
unfolding seen_in
seen_newest j signer nonce i h = some_newest i h _

-- what row k adds
abbrev part : List ℕ → ℕ → ℕ → ℕ → ℕ
part j signer clock k = cond (counts j signer clock k) (word j JOURNAL_LEN k ENTRY_AMOUNT) 0

counted_newest : (j : List ℕ) (signer clock i : ℕ) → 0 < i → counted_of j i signer clock ≡ counted_of j (i - 1) signer clock + part j signer clock (i - 1)
unfolding counted_of
counted_newest j signer clock i h = sum_newest i h (part j signer clock)

part_at : (j : List ℕ) (signer clock k since amount : ℕ) → since ≡ clock - DAY_MS → amount ≡ paid j (k * JOURNAL_LEN) 0
    → picked j (k * JOURNAL_LEN) signer since amount ≡ part j signer clock k
part_at j signer clock k since amount d p =
    ap (λ (x : ℕ). picked j (k * JOURNAL_LEN) signer x amount) d
    ∙ ap (λ b. cond (mine && b) amount 0) (recent_is clock (settled j (k * JOURNAL_LEN)))
    ∙ ap (λ (x : ℕ). cond (mine && recent) x 0) p
    ∙ part_is mine (eqb operation TRANSFER) (eqb operation OPEN) recent (word j JOURNAL_LEN k ENTRY_AMOUNT)
  where
    operation : ℕ
    operation = word j JOURNAL_LEN k OPERATION

    mine : Bool
    mine = eqb (word j JOURNAL_LEN k SIGNER) signer

    recent : Bool
    recent = leb clock (word j JOURNAL_LEN k SETTLED_AT + DAY_MS)

-- nothing is said of rows that are not right
pub said_none : (r used : Bool) (spent : ℕ) → r ≡ false → None ≡ looked r used spent
unfolding looked
said_none r used spent e = rw e

said_all : (r used used' : Bool) (spent spent' : ℕ) → r ≡ true → used ≡ used' → spent ≡ spent'
    → Some (record { used = used'; spent = spent' }) ≡ looked r used spent
unfolding looked
said_all r used used' spent spent' e f g = rw (e, f, g)

-- i rows are left, and k is the newest of them
module _ (j : List ℕ) (n signer nonce clock times found spent i : ℕ) (s : Sofar j n signer nonce clock times found spent i) where
  abbrev k : ℕ
  k = i - 1

  abbrev at : ℕ
  at = k * JOURNAL_LEN

  module _ (left : 0 < i) where
    module _ (shown amount : ℕ) (p : amount ≡ paid j at 0) (q : shown ≡ paid j at n) where
      -- the row is right just if its time is and the reader's test lets it pass
      row_is : right j k ≡ (time (settled j at) && not (fails shown amount))
      row_is =
          ap (λ b. time (settled j at) && b)
          (amount_is (eqb (word j JOURNAL_LEN k OPERATION) TRANSFER || eqb (word j JOURNAL_LEN k OPERATION) OPEN) (word j JOURNAL_LEN k ENTRY_AMOUNT) n shown amount
          (omega (arith, s.within, left)) q p)

      pub wrong_row : (used : Bool) (total : ℕ) → fails shown amount ≡ true → None ≡ looked (every n (right j)) used total
      wrong_row used total f =
          let r : right j k ≡ false = row_is ∙ and_none_snd (time (settled j at)) (not (fails shown amount)) (rw f) in
          said_none (every n (right j)) used total
          (s.rights ∙ and_none_fst (every i (right j)) (time times) (sym (every_fails i k (right j) (omega (arith, left)) r)))

      pub next : (since added hit : ℕ) (used : Bool) → fails shown amount ≡ false
          → since ≡ clock - DAY_MS
          → used ≡ has j at signer nonce
          → hit ≡ cond used n found
          → added ≡ picked j at signer since amount
          → Sofar j n signer nonce clock (bit_or times (settled j at)) hit (spent + added) k
      next since added hit used f d u m a =
          record {
            within = omega (arith, s.within);
            rights =
                s.rights
                ∙ ap (λ b. b && time times) (every_newest i left (right j) ∙ ap (λ b. every k (right j) && b) timed)
                ∙ swap (every k (right j)) (time (settled j at)) (time times)
                ∙ ap (λ b. every k (right j) && b) (sym (times_are times (settled j at)));
            uses =
                s.uses
                ∙ ap (λ b. b || ltb 0 found) (seen_newest j signer nonce i left ∙ ap (λ b. seen_in j k signer nonce || b) (sym u))
                ∙ marked (seen_in j k signer nonce) used n found (omega (arith, s.within, left))
                ∙ ap (λ (x : ℕ). seen_in j k signer nonce || ltb 0 x) (sym m);
            spends = omega (arith, s.spends, counted_newest j signer clock i left, adds);
            most = omega (arith, s.most, left, least);
          }
        where
          timed : right j k ≡ time (settled j at)
          timed = row_is ∙ ap (λ b. time (settled j at) && not b) f ∙ and-true _

          adds : added ≡ part j signer clock k
          adds = a ∙ part_at j signer clock k since amount d p

          least : added ≤ MAX_AMOUNT_MICRO
          least =
              rw a
              (chosen_most (eqb (get_or j (at + SIGNER) 0) signer && leb since (settled j at)) amount MAX_AMOUNT_MICRO
              (ltb-false MAX_AMOUNT_MICRO amount (or_none_snd (eqb shown 0) (ltb MAX_AMOUNT_MICRO amount) f)))

-- no row is left
module _ (j : List ℕ) (n signer nonce clock times found spent i : ℕ) (s : Sofar j n signer nonce clock times found spent i) (stop : i ≤ 0) where
  none : Sofar j n signer nonce clock times found spent 0
  none = let e : i ≡ 0 = omega arith in subst (Sofar j n signer nonce clock times found spent) e s

  rights_all : every n (right j) ≡ time times
  unfolding every
  rights_all = none.rights

  uses_all : seen_in j n signer nonce ≡ ltb 0 found
  unfolding seen_in some
  uses_all = none.uses

  spends_all : counted_of j n signer clock ≡ spent
  unfolding counted_of sum
  spends_all = none.spends ∙ zero-add spent

  pub late : (used : Bool) (total : ℕ) → LAST_TIME_MS < times → None ≡ looked (every n (right j)) used total
  late used total l = said_none (every n (right j)) used total (rights_all ∙ lt-leb times LAST_TIME_MS l)

  pub in_time : times ≤ LAST_TIME_MS
      → Some (record { used = ltb 0 found; spent = spent }) ≡ looked (every n (right j)) (seen_in j n signer nonce) (counted_of j n signer clock)
  in_time l = said_all _ _ _ _ _ (rights_all ∙ le-leb times LAST_TIME_MS l) uses_all spends_all
