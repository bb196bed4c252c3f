-- CONVERTING KEEPS. An entry is a part of 117 bytes: a store in one entry leaves the others, so the entries of the converted recording are the old
-- ones, converted one by one; and a store in a whole entry leaves what is behind the whole entries.
use mathlib.Core.Path.{◌≡◌, refl, sym, ap, ap₂, ◌∙◌}
use mathlib.Core.Logic.{◌≢◌}
use mathlib.Core.List.{List, ◌∷◌, map}
use Prim.Native.Nat.{ℕ, zero, suc, ◌+◌, ◌-◌, ◌*◌, ◌/◌, ◌≤◌, ◌<◌}
use native.Mathlib.Nat.{not-suc-le-zero}
use native.Mathlib.Decide.{ℕ_discrete, dec_lt}
use native.Mathlib.Omega.{arith}
use lib.ListN.{get_or, set, take, drop}
use lib.Seq.{drop-set-add, drop-set-lt, take-set-lt, take-set-le, take-take, get_or-take, get_or-drop, get_or-set_other}
use Rattle.rules.specs.Limits.{RECORD_BYTES, OPERATION_AT, FLAGS_AT, ENTRY_BYTES, ANSWER_AT, WORD_AT}
use Rattle.rules.specs.Table.{loop}
use Rattle.rules.specs.Record.{le_at}
use Rattle.rules.specs.Recording.{Entry, as_entry, entry_at, entries_from, whole_entries}
use Rattle.rules.specs.Convert.{operation_byte, flags_byte, convert_record, convert_entry, converted_at, converted}
use Rattle.rules.specs.Converted.{ConvertingKeeps}
use Rattle.rules.proofs.Convert.{length_converted}

-- ---- parts

-- the bytes of entry k
unfoldable part : List ℕ → ℕ → List ℕ
part r k = take ENTRY_BYTES (drop (k * ENTRY_BYTES) r)

unfoldable convert_part : List ℕ → List ℕ
convert_part p = set (set p OPERATION_AT (operation_byte (take RECORD_BYTES p))) FLAGS_AT (flags_byte (take RECORD_BYTES p))

abbrev turn : ℕ → List ℕ → List ℕ
turn k = converted_at (k * ENTRY_BYTES)

-- a store within a part, before it, behind it
set_in : (r : List ℕ) (a i v : ℕ) → i < ENTRY_BYTES → take ENTRY_BYTES (drop a (set r (a + i) v)) ≡ set (take ENTRY_BYTES (drop a r)) i v
set_in r a i v h = ap (take ENTRY_BYTES) (drop-set-add a r i v) ∙ take-set-lt ENTRY_BYTES (drop a r) i v h

set_before : (r : List ℕ) (a p v : ℕ) → p < a → take ENTRY_BYTES (drop a (set r p v)) ≡ take ENTRY_BYTES (drop a r)
set_before r a p v h = ap (take ENTRY_BYTES) (drop-set-lt a r p v h)

set_behind : (r : List ℕ) (a p v : ℕ) → a + ENTRY_BYTES ≤ p → take ENTRY_BYTES (drop a (set r p v)) ≡ take ENTRY_BYTES (drop a r)
set_behind r a p v h =
    let e : p ≡ a + (p - a) = omega arith in
    ap (λ (q : ℕ). take ENTRY_BYTES (drop a (set r q v))) e
    ∙ ap (take ENTRY_BYTES) (drop-set-add a r (p - a) v) ∙ take-set-le ENTRY_BYTES (drop a r) (p - a) v (omega arith)

-- the entry of a turn is converted, and the others stay
own : (r : List ℕ) (k : ℕ) → part (turn k r) k ≡ convert_part (part r k)
unfolding part converted_at convert_part
own r k =
    let a : ℕ = k * ENTRY_BYTES in
    let b : List ℕ = take RECORD_BYTES (drop a r) in
    let e : b ≡ take RECORD_BYTES (take ENTRY_BYTES (drop a r)) = sym (take-take RECORD_BYTES ENTRY_BYTES (drop a r) (omega arith)) in
    set_in (set r (a + OPERATION_AT) (operation_byte b)) a FLAGS_AT (flags_byte b) (omega arith)
    ∙ ap (λ (l : List ℕ). set l FLAGS_AT (flags_byte b)) (set_in r a OPERATION_AT (operation_byte b) (omega arith))
    ∙ ap (λ (l : List ℕ). set (set (take ENTRY_BYTES (drop a r)) OPERATION_AT (operation_byte l)) FLAGS_AT (flags_byte l)) e

other : (r : List ℕ) (k m : ℕ) → m ≢ k → part (turn k r) m ≡ part r m
unfolding part converted_at
other r k m ne = go (operation_byte (take RECORD_BYTES (drop (k * ENTRY_BYTES) r))) (flags_byte (take RECORD_BYTES (drop (k * ENTRY_BYTES) r))) (dec_lt m k)
  where
    go : (o f : ℕ) → Dec (m < k)
        → take ENTRY_BYTES (drop (m * ENTRY_BYTES) (set (set r (k * ENTRY_BYTES + OPERATION_AT) o) (k * ENTRY_BYTES + FLAGS_AT) f))
        ≡ take ENTRY_BYTES (drop (m * ENTRY_BYTES) r)
    go o f (yes h) = set_behind _ (m * ENTRY_BYTES) _ f (omega arith) ∙ set_behind r (m * ENTRY_BYTES) _ o (omega arith)
    go o f (no h) =
        let l : k < m = omega (arith, h, ne) in
        set_before _ (m * ENTRY_BYTES) _ f (omega arith) ∙ set_before r (m * ENTRY_BYTES) _ o (omega arith)

-- after n turns: those behind wait, those before are converted
waiting : (n : ℕ) (r : List ℕ) (m : ℕ) → n ≤ m → part (loop n turn r) m ≡ part r m
unfolding loop
waiting zero r m h = refl
waiting (suc n) r m h = other (loop n turn r) n m (λ e. omega arith) ∙ waiting n r m (omega arith)

turned : (n : ℕ) (r : List ℕ) (m : ℕ) → m < n → part (loop n turn r) m ≡ convert_part (part r m)
unfolding loop
turned zero r m h = absurd (not-suc-le-zero h)
turned (suc n) r m h = go (ℕ_discrete m n) (λ l. turned n r m l)
  where
    go : Dec (m ≡ n) → (m < n → part (loop n turn r) m ≡ convert_part (part r m)) → part (turn n (loop n turn r)) m ≡ convert_part (part r m)
    go (yes e) ih =
        ap (part (turn n (loop n turn r))) e ∙ own (loop n turn r) n ∙ ap convert_part (waiting n r n (omega arith) ∙ ap (part r) (sym e))
    go (no e) ih = other (loop n turn r) n m e ∙ ih (omega (arith, e))

-- ---- entries

-- an entry is what its part says
unfoldable entry_of : List ℕ → Entry
entry_of p = as_entry (take RECORD_BYTES p) (get_or p ANSWER_AT 0) (le_at 8 p WORD_AT)

le_part : (n : ℕ) (r : List ℕ) (a q : ℕ) → q + n ≤ ENTRY_BYTES → le_at n (take ENTRY_BYTES (drop a r)) q ≡ le_at n r (a + q)
le_part zero r a q h = refl
le_part (suc n) r a q h =
    let e : a + (q + 1) ≡ a + q + 1 = omega arith in
    ap₂ (λ (x y : ℕ). x + 256 * y) (get_or-take ENTRY_BYTES (drop a r) q 0 (omega arith) ∙ get_or-drop a r q 0)
    (le_part n r a (q + 1) (omega arith) ∙ ap (le_at n r) e)

entry_part : (r : List ℕ) (k : ℕ) → entry_at r k ≡ entry_of (part r k)
unfolding entry_at part entry_of
entry_part r k =
    let a : ℕ = k * ENTRY_BYTES in
    let b : take RECORD_BYTES (take ENTRY_BYTES (drop a r)) ≡ take RECORD_BYTES (drop a r) = take-take RECORD_BYTES ENTRY_BYTES (drop a r) (omega arith) in
    let n : get_or (take ENTRY_BYTES (drop a r)) ANSWER_AT 0 ≡ get_or r (a + ANSWER_AT) 0 =
    get_or-take ENTRY_BYTES (drop a r) ANSWER_AT 0 (omega arith) ∙ get_or-drop a r ANSWER_AT 0 in
    let w : le_at 8 (take ENTRY_BYTES (drop a r)) WORD_AT ≡ le_at 8 r (a + WORD_AT) = le_part 8 r a WORD_AT (omega arith) in
    sym
    (ap (λ (l : List ℕ). as_entry l (get_or (take ENTRY_BYTES (drop a r)) ANSWER_AT 0) (le_at 8 (take ENTRY_BYTES (drop a r)) WORD_AT)) b
    ∙ ap₂ (as_entry (take RECORD_BYTES (drop a r))) n w)

-- a store before the place of a number leaves it
pub le_set : (n : ℕ) (p : List ℕ) (q i v : ℕ) → i < q → le_at n (set p i v) q ≡ le_at n p q
le_set zero p q i v h = refl
le_set (suc n) p q i v h = ap₂ (λ (x y : ℕ). x + 256 * y) (get_or-set_other p i q v 0 (λ e. omega arith)) (le_set n p (q + 1) i v (omega arith))

entry_converted : (p : List ℕ) → entry_of (convert_part p) ≡ convert_entry (entry_of p)
unfolding entry_of convert_part convert_record
entry_converted p = go (operation_byte (take RECORD_BYTES p)) (flags_byte (take RECORD_BYTES p))
  where
    go : (o f : ℕ) → (
        let q : List ℕ = set (set p OPERATION_AT o) FLAGS_AT f in
        as_entry (take RECORD_BYTES q) (get_or q ANSWER_AT 0) (le_at 8 q WORD_AT)
        ≡ as_entry (set (set (take RECORD_BYTES p) OPERATION_AT o) FLAGS_AT f) (get_or p ANSWER_AT 0) (le_at 8 p WORD_AT))
    go o f =
        let q : List ℕ = set (set p OPERATION_AT o) FLAGS_AT f in
        let b : take RECORD_BYTES q ≡ set (set (take RECORD_BYTES p) OPERATION_AT o) FLAGS_AT f =
        take-set-lt RECORD_BYTES (set p OPERATION_AT o) FLAGS_AT f (omega arith)
        ∙ ap (λ (l : List ℕ). set l FLAGS_AT f) (take-set-lt RECORD_BYTES p OPERATION_AT o (omega arith)) in
        let n : get_or q ANSWER_AT 0 ≡ get_or p ANSWER_AT 0 =
        get_or-set_other (set p OPERATION_AT o) FLAGS_AT ANSWER_AT f 0 (λ e. omega arith) ∙ get_or-set_other p OPERATION_AT ANSWER_AT o 0 (λ e. omega arith) in
        let w : le_at 8 q WORD_AT ≡ le_at 8 p WORD_AT =
        le_set 8 (set p OPERATION_AT o) WORD_AT FLAGS_AT f (omega arith) ∙ le_set 8 p WORD_AT OPERATION_AT o (omega arith) in
        ap (λ (l : List ℕ). as_entry l (get_or q ANSWER_AT 0) (le_at 8 q WORD_AT)) b
        ∙ ap₂ (as_entry (set (set (take RECORD_BYTES p) OPERATION_AT o) FLAGS_AT f)) n w

entries_turned : (n k N : ℕ) (r : List ℕ) → k + n ≤ N → entries_from (loop N turn r) n k ≡ map convert_entry (entries_from r n k)
unfolding entries_from
entries_turned zero k N r h = refl
entries_turned (suc n) k N r h =
    ap₂ (λ (e : Entry) (es : List Entry). e ∷ es)
    (entry_part (loop N turn r) k ∙ ap entry_of (turned N r k (omega arith)) ∙ entry_converted (part r k) ∙ ap convert_entry (sym (entry_part r k)))
    (entries_turned n (k + 1) N r (omega arith))

-- ---- what is behind them

cut_at : (a p : ℕ) (r : List ℕ) → a + FLAGS_AT < p → drop p (converted_at a r) ≡ drop p r
unfolding converted_at
cut_at a p r h =
    drop-set-lt p _ (a + FLAGS_AT) _ (omega arith) ∙ drop-set-lt p r (a + OPERATION_AT) _ (omega arith)

cut_turned : (n p : ℕ) (r : List ℕ) → n * ENTRY_BYTES ≤ p → drop p (loop n turn r) ≡ drop p r
unfolding loop
cut_turned zero p r h = refl
cut_turned (suc n) p r h = cut_at (n * ENTRY_BYTES) p (loop n turn r) (omega arith) ∙ cut_turned n p r (omega arith)

pub converting_keeps : ConvertingKeeps
unfolding converted
converting_keeps r =
    let number : whole_entries (converted r) ≡ whole_entries r = ap (λ (n : ℕ). n / ENTRY_BYTES) (length_converted r) in
    record {
      length = length_converted r;
      number = number;
      entries =
          ap (λ (n : ℕ). entries_from (converted r) n 0) number ∙ entries_turned (whole_entries r) 0 (whole_entries r) r (omega arith);
      cut = cut_turned (whole_entries r) (whole_entries r * ENTRY_BYTES) r (omega arith);
    }
