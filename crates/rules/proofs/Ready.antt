-- What answers 1 and 2 test holds of a ledger started afresh, and still holds after any submission: lengths are kept (Lengths), and soundness is
-- (SoundAlways). So code that submits one record after the other tests it once.
use mathlib.Core.Path.{◌∙◌}
use mathlib.Core.List.{List, []}
use Prim.Native.Nat.{ℕ, ◌≤◌}
use Rattle.rules.specs.Limits.{HEADER_LEN, ESCROW_LEN}
use Rattle.rules.specs.Ledger.{Ledger}
use Rattle.rules.specs.Sound.{Ready}
use Rattle.rules.specs.Submit.{submit}
use Rattle.rules.specs.Promises.{Lent, started}
use Rattle.rules.proofs.Lengths.{lengths_submit, lengths_right_lem, lent_started}
use Rattle.rules.proofs.SoundAlways.{sound_settles, sound_always}

pub ready_fresh : (L : Ledger) → Lent L → Ready (started L)
ready_fresh L lent = record { lengths = (lent_started L lent).lengths; sound = sound_always L lent [] }

pub ready_stays : (L : Ledger) → HEADER_LEN ≤ L.edition.header → ESCROW_LEN ≤ L.edition.escrow → Ready L → (b : List ℕ) → Ready (submit L b).left
ready_stays L header escrow ready b = record {
  lengths = lengths_right_lem (lengths_submit L b) ∙ ready.lengths;
  sound = sound_settles L (record { lengths = ready.lengths; header = header; escrow = escrow }) ready.sound b;
}
