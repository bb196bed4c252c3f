-- What a recipient's wallet decides of a grant, a transfer or an open.
use Rattle.std.specs.Prelude.{Bool, true, false, Result, Ok, Err}
use Rattle.rules.specs.declared.WalletState.{WalletState}
use Rattle.rules.specs.declared.WalletState.TheVariants.{Missing, Live, Closed}
use Rattle.rules.specs.declared.refusal.Refusal.{Refusal}
use Rattle.rules.specs.declared.refusal.Refusal.TheVariants.{WalletClosed}

-- whether it needs a row: a missing one does, and a closed one is refused
abbrev pub needs_row : WalletState → Result Bool Refusal
needs_row Missing = Ok true
needs_row (Live k) = Ok false
needs_row (Closed k) = Err WalletClosed
