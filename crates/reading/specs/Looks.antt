-- What one reading of the journal says.
use Rattle.std.specs.Prelude.{Bool, cond, Option, Some, None, List, [], ℕ}
use Rattle.rules.specs.Ledger.{Ledger, ledger}
use Rattle.reading.specs.declared.Looked.{Looked}

-- a journal as a ledger of that table alone, so that the tests of its rows are the definitions' own
abbrev pub entries_in : List ℕ → Ledger
entries_in j = ledger [] [] [] [] j

-- of right rows what was found in them; of others nothing
unfoldable pub looked : Bool → Bool → ℕ → Option Looked
looked right used spent = cond right (Some (record { used = used; spent = spent })) None
