-- The converter over plain values: the two stores of an entry, from what was read of it, and the loop, an entry further.
use Rattle.std.specs.Prelude.{Option}
use mathlib.Core.Path.{◌≡◌, refl, sym, ap, ap₂, ◌∙◌}
use mathlib.Core.List.{List}
use Prim.Native.Nat.{ℕ, ◌+◌, ◌-◌, ◌*◌, ◌≤◌, ◌<◌}
use native.Mathlib.Numerals.{add-one}
use native.Mathlib.Omega.{arith}
use lib.ListN.{get_or, set, length, take, drop}
use lib.Seq.{get_or-take, get_or-drop}
use lib.Dec.{lit<}
use Rattle.rules.specs.Limits.{RECORD_BYTES, OPERATION_AT, FLAGS_AT, ENTRY_BYTES}
use Rattle.rules.specs.Table.{loop}
use Rattle.rules.specs.Numbers.{read_as}
use Rattle.rules.specs.Record.{read_by}
use Rattle.rules.specs.Recording.{whole_entries}
use Rattle.rules.specs.Convert.{old_operation, new_operation, new_flags, converted_at, converted}
use Rattle.rules.specs.declared.Form.TheVariants.{Old}
use Rattle.rules.specs.declared.Read.{Read}
use Rattle.rules.specs.declared.Submission.{Submission}

-- ---- an entry: the part as the code lends it, and both stores

-- the operation of what is read
abbrev pub read_operation : Option Submission → ℕ
read_operation o = (read_as o).submission.op

pub stored : (r : List ℕ) (at : ℕ) (o : Option Submission) (was : ℕ) {op flags : ℕ} → read_as o ≡ read_by Old (take (at + RECORD_BYTES - at) (drop at r))
    → was ≡ read_operation o → op ≡ new_operation was → flags ≡ new_flags was (get_or r (at + FLAGS_AT) 0)
    → set (set r (at + OPERATION_AT) op) (at + FLAGS_AT) flags ≡ converted_at at r
unfolding converted_at old_operation
stored r at o was read w e f =
    let n : at + RECORD_BYTES - at ≡ RECORD_BYTES = omega arith in
    let old : was ≡ (read_by Old (take RECORD_BYTES (drop at r))).submission.op =
    w ∙ ap (λ (y : Read). y.submission.op) (read ∙ ap (λ (k : ℕ). read_by Old (take k (drop at r))) n) in
    let byte : get_or r (at + FLAGS_AT) 0 ≡ get_or (take RECORD_BYTES (drop at r)) FLAGS_AT 0 =
    sym (get_or-take RECORD_BYTES (drop at r) FLAGS_AT 0 (lit< tt) ∙ get_or-drop at r FLAGS_AT 0) in
    ap₂ (λ (a b : ℕ). set (set r (at + OPERATION_AT) a) (at + FLAGS_AT) b)
    (e ∙ ap new_operation old) (f ∙ ap₂ new_flags old byte)

-- ---- so far k entries

pub record Turned (first : List ℕ) (k : ℕ) (r : List ℕ) : Type 0 where
  pub within : k ≤ whole_entries first
  pub same : length r ≡ length first
  pub so_far : r ≡ loop k (λ i. converted_at (i * ENTRY_BYTES)) first

pub turned_none : (r : List ℕ) → Turned r 0 r
unfolding loop
turned_none r = record { within = omega arith; same = refl; so_far = refl }

pub turned_more : (first r : List ℕ) (k : ℕ) {next : List ℕ} → Turned first k r → k < whole_entries first → next ≡ converted_at (k * ENTRY_BYTES) r
    → length next ≡ length r → Turned first (k + 1) next
unfolding loop
turned_more first r k t h x l = record {
  within = omega arith;
  same = l ∙ t.same;
  so_far = x ∙ ap (converted_at (k * ENTRY_BYTES)) t.so_far ∙ rw (add-one k);
}

pub turned_all : (first r : List ℕ) (k : ℕ) → Turned first k r → whole_entries first ≤ k → r ≡ converted first
unfolding converted
turned_all first r k t h =
    let e : k ≡ whole_entries first = omega (arith, t.within) in
    t.so_far ∙ ap (λ (n : ℕ). loop n (λ i. converted_at (i * ENTRY_BYTES)) first) e
