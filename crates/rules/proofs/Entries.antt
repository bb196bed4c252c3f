-- What is recorded is read back, whatever bytes follow: an entry in front of a recording is its first, and all others stand 117 bytes further on.
use mathlib.Core.Path.{◌≡◌, refl, ap, ap₂, ◌∙◌}
use mathlib.Core.List.{List, [], ◌∷◌, ◌++◌, append_assoc}
use mathlib.Core.Bool.{not}
use Prim.Native.Nat.{ℕ, zero, suc, ◌+◌, ◌*◌, ◌%◌}
use native.Mathlib.Omega.{arith}
use lib.ListN.{length, length-append}
use lib.Seq.{take_at, drop-append-add, get_or-append-add, get_or_at}
use lib.Dec.{eqb}
use Rattle.rules.specs.Limits.{RECORD_BYTES, ENTRY_BYTES, ANSWER_AT, WORD_AT}
use Rattle.rules.specs.Record.{le_at, le_bytes}
use Rattle.rules.specs.Recording.{Entry, entry_at, entries_from, whole_entries, entries_of, cut_short, entry_bytes, recording_of}
use Rattle.rules.specs.Agreement.{Whole, RecordedRead}
use Rattle.rules.proofs.Le.{le_length, sum_is, le_behind}

-- ---- behind other bytes

entry_behind : (p r : List ℕ) (k : ℕ) → length p ≡ ENTRY_BYTES → entry_at (p ++ r) (k + 1) ≡ entry_at r k
unfolding entry_at
entry_behind p r k h =
    let at : (k + 1) * ENTRY_BYTES ≡ length p + k * ENTRY_BYTES = omega arith in
    let answer : length p + k * ENTRY_BYTES + ANSWER_AT ≡ length p + (k * ENTRY_BYTES + ANSWER_AT) = omega arith in
    let word : length p + k * ENTRY_BYTES + WORD_AT ≡ length p + (k * ENTRY_BYTES + WORD_AT) = omega arith in
    rw (at, answer, word, drop-append-add p r (k * ENTRY_BYTES), get_or-append-add p r (k * ENTRY_BYTES + ANSWER_AT) 0, le_behind 8 p r (k * ENTRY_BYTES + WORD_AT))

entries_behind : (n : ℕ) (p r : List ℕ) (k : ℕ) → length p ≡ ENTRY_BYTES → entries_from (p ++ r) n (k + 1) ≡ entries_from r n k
unfolding entries_from
entries_behind zero p r k h = refl
entries_behind (suc n) p r k h = ap₂ (λ (e : Entry) (es : List Entry). e ∷ es) (entry_behind p r k h) (entries_behind n p r (k + 1) h)

-- ---- the bytes of an entry, in front

entry_length : (e : Entry) → Whole e → length (entry_bytes e) ≡ ENTRY_BYTES
entry_length e w = omega (arith, length-append e.bytes (e.number ∷ le_bytes 8 e.word), w.bytes, le_length 8 e.word)

entry_first : (e : Entry) (r : List ℕ) → Whole e → entry_at (entry_bytes e ++ r) 0 ≡ e
unfolding entry_at
entry_first e r w =
    let behind : List ℕ = e.number ∷ (le_bytes 8 e.word ++ r) in
    let at : WORD_AT ≡ length e.bytes + 1 = omega (arith, w.bytes) in
    let word : le_at 8 (e.bytes ++ behind) WORD_AT ≡ e.word = ap (le_at 8 (e.bytes ++ behind)) at ∙ le_behind 8 e.bytes behind 1 ∙ sum_is 8 e.word w.word in
    rw (
      append_assoc e.bytes (e.number ∷ le_bytes 8 e.word) r,
      take_at e.bytes behind RECORD_BYTES w.bytes,
      get_or_at e.bytes e.number (le_bytes 8 e.word ++ r) 0 ANSWER_AT w.bytes,
      word,
    )

one_read : (e : Entry) (r : List ℕ) → Whole e → (entries_of (entry_bytes e ++ r) ≡ e ∷ entries_of r) × (cut_short (entry_bytes e ++ r) ≡ cut_short r)
unfolding entries_from
one_read e r w =
    let l : length (entry_bytes e ++ r) ≡ ENTRY_BYTES + length r = omega (arith, length-append (entry_bytes e) r, entry_length e w) in
    let whole : whole_entries (entry_bytes e ++ r) ≡ suc (whole_entries r) = omega arith in
    let left : length (entry_bytes e ++ r) % ENTRY_BYTES ≡ length r % ENTRY_BYTES = omega arith in (
      ap (λ (n : ℕ). entries_from (entry_bytes e ++ r) n 0) whole
          ∙ ap₂ (λ (x : Entry) (xs : List Entry). x ∷ xs) (entry_first e r w) (entries_behind (whole_entries r) (entry_bytes e) r 0 (entry_length e w)),
      ap (λ (m : ℕ). not (eqb m 0)) left,
    )

pub recorded_read : RecordedRead
recorded_read [] h rest = (refl, refl)
recorded_read (e ∷ es) h rest =
    let one = one_read e (recording_of es ++ rest) h.0 in
    let more = recorded_read es h.1 rest in
    rw (append_assoc (entry_bytes e) (recording_of es) rest) (one.0 ∙ ap (λ (xs : List Entry). e ∷ xs) more.0, one.1 ∙ more.1)
