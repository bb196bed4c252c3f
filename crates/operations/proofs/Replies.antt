-- A reply is the dispute or the accept that its bit 2 says.
use mathlib.Core.Path.{◌≡◌}
use Prim.Native.Nat.{◌/◌, ◌%◌}
use borrow.Author.Tests.{eq-eqb, ne_eqb}
use Rattle.rules.specs.Ledger.{Ledger}
use Rattle.rules.specs.Settle.{Done, accept, dispute, reply}
use Rattle.rules.specs.declared.Submission.{Submission}

pub disputed : (s : Submission) (L : Ledger) (d : Done) → s.flags / 4 % 2 ≡ 0 → d ≡ dispute s L → d ≡ reply s L
unfolding reply
disputed s L d e x = rw (eq-eqb (s.flags / 4 % 2) 0 e) x

pub accepted : (s : Submission) (L : Ledger) (d : Done) → (s.flags / 4 % 2 ≡ 0 → ⊥) → d ≡ accept s L → d ≡ reply s L
unfolding reply
accepted s L d e x = rw (ne_eqb (s.flags / 4 % 2) 0 e) x
