-- The operations by name, each with its number of the paper; and what a byte names.
use Rattle.std.specs.Prelude.{◌≡◌, List, [], ◌∷◌, ℕ, ◌≢◌, Result, MatchResult}
use Rattle.rules.specs.Limits.{GRANT, TRANSFER, OPEN, RELEASE, REFUND, CLAIM, REPLY, SWEEP, FREEZE, CAPS, CLOSE, OLD_DISPUTE, LAST_OPERATION}
use Rattle.rules.specs.declared.operation.NoOperation.{NoOperation}
use Rattle.rules.specs.declared.operation.Operation.{Operation}
use Rattle.rules.specs.declared.operation.Operation.TheVariants.{Grant, Transfer, Open, Release, Refund, Claim, Reply, Sweep, Freeze, Caps, Close}

abbrev pub code_of : Operation → ℕ
code_of Grant = GRANT
code_of Transfer = TRANSFER
code_of Open = OPEN
code_of Release = RELEASE
code_of Refund = REFUND
code_of Claim = CLAIM
code_of Reply = REPLY
code_of Sweep = SWEEP
code_of Freeze = FREEZE
code_of Caps = CAPS
code_of Close = CLOSE

-- the operation with this number; or there is none, and the byte is handed back
abbrev pub Decodes : ℕ → Result Operation NoOperation → Type 0
Decodes op r = MatchResult r (λ o. op ≡ code_of o) (λ e. (e.0 ≡ op) × ((o : Operation) → op ≢ code_of o))
