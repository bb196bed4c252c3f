-- `envelope::seen` meets its contract: signer and nonce are seen in n rows just if they are seen in the first i, or found in the row looked at last.
use Prim.Native.Nat.{◌≤◌}
use Rattle.envelope.proofs.Search.{Known}
use Rattle.envelope.proofs.seen.Given as goal

abbrev pub invariant-loop-i : goal.invariant-loop-i
invariant-loop-i l = (l.i ≤ l.n) × Known l.journal l.signer l.nonce l.n l.found l.i

abbrev pub decreases-loop-i : goal.decreases-loop-i
decreases-loop-i l = l.i
