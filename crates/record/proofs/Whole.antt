-- The reader and the writer as wholes, over plain values: what they answer from what their parts found.
use Rattle.std.specs.Prelude.{None, Some}
use mathlib.Core.Path.{◌≡◌, sym, ◌∙◌}
use mathlib.Core.List.{List}
use mathlib.Core.Bool.{Bool, true, false, cond, ◌&&◌}
use Prim.Native.Nat.{ℕ}
use lib.Dec.{eqb}
use lib.ListN.{get_or, set, length}
use lib.Seq.{sets}
use borrow.Author.Tests.{eq-eqb, ne_eqb}
use Rattle.rules.specs.Limits.{RECORD_BYTES, MARK_0, MARK_1}
use Rattle.rules.specs.Numbers.{read_as}
use Rattle.rules.specs.Record.{decode, encode, words_of, word_bytes, well_formed_by, well_formed, accepted_by, read_by, write_of}
use Rattle.rules.specs.declared.Form.{Form}
use Rattle.rules.specs.declared.Submission.{Submission}
use Rattle.rules.proofs.Rows.{sets_whole}

-- ---- the reader
pub read_short : (f : Form) (b : List ℕ) → (length b ≡ RECORD_BYTES → ⊥) → read_as None ≡ read_by f b
unfolding read_by accepted_by
read_short f b n = rw (ne_eqb (length b) RECORD_BYTES n)

-- the code's tests of mark and form
abbrev Marked : List ℕ → Bool → Bool
Marked b w = eqb (get_or b 0 0) MARK_0 && (eqb (get_or b 1 0) MARK_1 && w)

read_by_lem : (f : Form) (b : List ℕ) (s : Submission) {w : Bool} → length b ≡ RECORD_BYTES → s ≡ decode b → w ≡ well_formed_by f s
    → cond (Marked b w) (read_as (Some s)) (read_as None) ≡ read_by f b
unfolding read_by accepted_by
read_by_lem f b s l x y = rw (eq-eqb (length b) RECORD_BYTES l, y, x)

pub read_there : (f : Form) (b : List ℕ) (s : Submission) {w : Bool} → length b ≡ RECORD_BYTES → s ≡ decode b → w ≡ well_formed_by f s → Marked b w ≡ true
    → read_as (Some s) ≡ read_by f b
read_there f b s l x y t = rw t at (read_by_lem f b s l x y)

pub read_malformed : (f : Form) (b : List ℕ) (s : Submission) {w : Bool} → length b ≡ RECORD_BYTES → s ≡ decode b → w ≡ well_formed_by f s → Marked b w ≡ false
    → read_as None ≡ read_by f b
read_malformed f b s l x y t = rw t at (read_by_lem f b s l x y)

-- ---- the writer
-- the first four bytes stored, and then the words
abbrev Headed : List ℕ → Submission → List ℕ
Headed out s = set (set (set (set out 0 MARK_0) 1 MARK_1) 2 s.op) 3 s.flags

pub stored : (out out' : List ℕ) (s : Submission) → length out ≡ RECORD_BYTES → out' ≡ sets (Headed out s) 4 (word_bytes (words_of s)) → out' ≡ encode s
unfolding encode
stored out out' s h x = x ∙ sets_whole out (encode s) h

pub write_short : (s : Submission) (out : List ℕ) → (length out ≡ RECORD_BYTES → ⊥) → record { number = 3; out = out } ≡ write_of s out
unfolding write_of
write_short s out n = rw (ne_eqb (length out) RECORD_BYTES n)

pub write_there : (s : Submission) (out out' : List ℕ) → length out ≡ RECORD_BYTES → well_formed s ≡ true → out' ≡ encode s
    → record { number = 0; out = out' } ≡ write_of s out
unfolding write_of
write_there s out out' l t x = rw (eq-eqb (length out) RECORD_BYTES l, t, x)

pub write_malformed : (s : Submission) (out : List ℕ) → length out ≡ RECORD_BYTES → well_formed s ≡ false → record { number = 3; out = out } ≡ write_of s out
unfolding write_of
write_malformed s out l t = rw (eq-eqb (length out) RECORD_BYTES l, t)
