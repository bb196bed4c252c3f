-- A converted recording is as long as it was: the converter sets bytes and adds none.
use mathlib.Core.Path.{◌≡◌, refl, ◌∙◌}
use mathlib.Core.List.{List}
use Prim.Native.Nat.{ℕ, zero, suc, ◌*◌}
use lib.ListN.{length, length-set}
use Rattle.rules.specs.Limits.{ENTRY_BYTES}
use Rattle.rules.specs.Table.{loop}
use Rattle.rules.specs.Recording.{whole_entries}
use Rattle.rules.specs.Convert.{converted_at, converted}

pub length_at : (at : ℕ) (r : List ℕ) → length (converted_at at r) ≡ length r
unfolding converted_at
length_at at r = simp length-set refl

pub length_turns : (n : ℕ) (r : List ℕ) → length (loop n (λ k. converted_at (k * ENTRY_BYTES)) r) ≡ length r
unfolding loop
length_turns zero r = refl
length_turns (suc n) r = length_at (n * ENTRY_BYTES) _ ∙ length_turns n r

pub length_converted : (r : List ℕ) → length (converted r) ≡ length r
unfolding converted
length_converted r = length_turns (whole_entries r) r
