-- `wallets::total_right` meets its contract. The loop's invariant: what is left and the credits of the rows passed are what was granted.
use Prim.Native.Nat.{◌+◌}
use mathlib.Core.Path.{◌≡◌}
use Rattle.rules.specs.Table.{sum}
use Rattle.sound.proofs.Totals.{both}
use Rattle.sound.proofs.wallets.total_right.Given as goal

abbrev pub invariant-loop-i : goal.invariant-loop-i
invariant-loop-i l = l.left + sum l.i (both l.w) ≡ l.granted
