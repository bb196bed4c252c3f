-- `word_bytes::put_le` meets its contract: what is left to store makes the whole.
use mathlib.Core.Path.{◌≡◌}
use Prim.Native.Nat.{◌+◌, ◌-◌}
use Rattle.word_bytes.proofs.Stores.{le_put}
use Rattle.word_bytes.proofs.put_le.Given as goal

abbrev pub invariant-loop-p : goal.invariant-loop-p
invariant-loop-p l = le_put l.n l.initial.b l.at l.x ≡ le_put (l.at + l.n - l.p) l.b l.p l.v
