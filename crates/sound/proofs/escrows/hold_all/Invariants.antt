-- `escrows::hold_all` meets its contract. The loop's invariant: the escrows passed are right, and the sums are those over them.
use mathlib.Core.Path.{◌≡◌}
use mathlib.Core.Bool.{true}
use Rattle.rules.specs.Table.{all, every}
use Rattle.rules.specs.Sound.{escrow_tests}
use Rattle.sound.specs.Parts.{parties, Held}
use Rattle.sound.proofs.escrows.hold_all.Given as goal

abbrev pub invariant-loop-k : goal.invariant-loop-k
invariant-loop-k l =
    (every l.k (λ i. all (escrow_tests (parties l.len l.w l.n l.e l.m) i)) ≡ true) × Held l.len l.w l.n l.e l.k l.sums
