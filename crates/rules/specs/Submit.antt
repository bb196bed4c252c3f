-- A submission: the first refusal and the ledger as it was, or what settling leaves; by a form of records. A name without a form is today's.
use Rattle.std.specs.Prelude.{List, ℕ, zero, suc}
use Rattle.rules.specs.Ledger.{Ledger, Outcome, outcome}
use Rattle.rules.specs.Record.{read_by, read_of}
use Rattle.rules.specs.Refusals.{first, refusals_by}
use Rattle.rules.specs.Settle.{Done, settle_by}
use Rattle.rules.specs.declared.Form.{Form}
use Rattle.rules.specs.declared.Form.TheVariants.{Today}
use Rattle.rules.specs.declared.Read.{Read}

-- the number of the answer
unfoldable pub answer_by : Form → Ledger → Read → ℕ
answer_by form L r = first (refusals_by form L r)

abbrev pub answer_of : Ledger → Read → ℕ
answer_of = answer_by Today

-- what bytes are read as, and the number of their answer: all that is decided before anything changes
abbrev pub decided : Ledger → List ℕ → Read
decided L bytes = record { number = answer_of L (read_of bytes); submission = (read_of bytes).submission }

-- settled, or refused with the word 0 and the ledger as it was
abbrev pub finish : ℕ → Done → Ledger → Outcome
finish zero d L = outcome 0 d.word d.after
finish (suc n) d L = outcome (suc n) 0 L

unfoldable pub submit_read_by : Form → Ledger → Read → Outcome
submit_read_by form L r = finish (answer_by form L r) (settle_by form r.submission L) L

unfoldable pub submit_by : Form → Ledger → List ℕ → Outcome
submit_by form L bytes = submit_read_by form L (read_by form bytes)

abbrev pub submit_read : Ledger → Read → Outcome
submit_read = submit_read_by Today

-- THE CALL: a ledger, and the bytes of a record
abbrev pub submit : Ledger → List ℕ → Outcome
submit = submit_by Today
