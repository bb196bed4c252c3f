-- The round trips, over plain values: what the writer and the reader answered one after the other, by the theorems of the definitions.
use Rattle.std.specs.Prelude.{Option, None, Some, Result, Ok}
use mathlib.Core.Path.{◌≡◌, refl, ap, ◌∙◌}
use mathlib.Core.List.{List}
use mathlib.Core.Bool.{Bool, true, false, cond, ◌&&◌}
use Prim.Native.Nat.{ℕ}
use native.Mathlib.Omega.{arith}
use lib.Dec.{eqb}
use lib.ListN.{length}
use Rattle.rules.specs.Limits.{RECORD_BYTES}
use Rattle.rules.specs.Numbers.{as_number, read_as}
use Rattle.rules.specs.Record.{nothing, encode, well_formed, well_formed_by, read_of, Written, write_of}
use Rattle.rules.specs.Promises.{Fields, Bytes}
use Rattle.rules.specs.declared.Submission.{Submission}
use Rattle.rules.specs.declared.Read.{Read}
use Rattle.rules.specs.declared.refusal.Refusal.{Refusal}
use Rattle.rules.proofs.Codec.{written_read, read_written}
use Rattle.rules.proofs.Numbers.{same_outcome, same_read}

pub trip_of_fields : (s : Submission) (out out' : List ℕ) (n : ℕ) (o : Option Submission) → Fields s → ◌≡◌ {A = Written} (record { number = n; out = out' }) (write_of s out)
    → read_as o ≡ read_of out'
    → (out' ≡ (write_of s out).out) × (read_as o ≡ read_of out') × ((write_of s out).number ≡ 0 → o ≡ Some s)
trip_of_fields s out out' n o fits w x =
    let e : out' ≡ (write_of s out).out = ap (λ (v : Written). v.out) w in
    (e, x, λ z. same_read o (Some s) (x ∙ ap read_of e ∙ written_read s out fits z))

pub trip_of_bytes : (b out out' : List ℕ) (s : Submission) (r : Result Unit Refusal) → Bytes b → read_as (Some s) ≡ read_of b
    → ◌≡◌ {A = Written} (record { number = as_number r; out = out' }) (write_of s out)
    → (◌≡◌ {A = Written} (record { number = as_number r; out = out' }) (write_of (read_of b).submission out))
    × ((read_of b).number ≡ 0 → length out ≡ RECORD_BYTES → (r ≡ Ok tt) × (out' ≡ b))
trip_of_bytes b out out' s r bytes x w =
    let y : ◌≡◌ {A = Written} (record { number = as_number r; out = out' }) (write_of (read_of b).submission out) =
    w ∙ ap (λ (v : Read). write_of v.submission out) x in (
      y,
      λ z l.
          let e : ◌≡◌ {A = Written} (record { number = as_number r; out = out' }) (record { number = 0; out = b }) = y ∙ read_written b out bytes z l in
          (same_outcome r (Ok tt) (ap (λ (v : Written). v.number) e), ap (λ (v : Written). v.out) e),
    )

-- a malformed record is read as no fields, and these are not written
unwritten : (out : List ℕ) → ◌≡◌ {A = Written} (record { number = 3; out = out }) (write_of nothing out)
unfolding write_of well_formed_by
unwritten out = go (eqb (length out) RECORD_BYTES)
  where
    wrote : Bool → Written
    wrote b = cond b (record { number = 0; out = encode nothing }) (record { number = 3; out = out })

    go : (b : Bool) → ◌≡◌ {A = Written} (record { number = 3; out = out }) (wrote (b && well_formed nothing))
    go true = refl
    go false = refl

pub trip_of_none : (b out : List ℕ) {r : Result Unit Refusal} → read_as None ≡ read_of b
    → (◌≡◌ {A = Written} (record { number = 3; out = out }) (write_of (read_of b).submission out))
    × ((read_of b).number ≡ 0 → length out ≡ RECORD_BYTES → (r ≡ Ok tt) × (out ≡ b))
trip_of_none b out x = (
  unwritten out ∙ ap (λ (v : Read). write_of v.submission out) x,
  λ z l. let k : ◌≡◌ {A = ℕ} 3 0 = ap (λ (v : Read). v.number) x ∙ z in absurd (omega arith),
)
