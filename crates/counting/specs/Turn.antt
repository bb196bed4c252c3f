-- One entry of a recording, as the report's loop takes it: what it leaves of a report and a ledger. And what working out its figures relies on.
use Rattle.std.specs.Prelude.{◌≡◌, List, cond, ℕ, eqb}
use Rattle.rules.specs.Ledger.{Ledger, ledger_of}
use Rattle.rules.specs.Numbers.{as_number}
use Rattle.rules.specs.Report.{Report, Line, line_of, tallied, passing, stopped}
use Rattle.rules.specs.Submit.{submit}
use Rattle.rules.specs.declared.Edition.{Edition}
use Rattle.rules.specs.declared.Decided.{Decided}
use Rattle.settling.specs.Needs.{Settles}

pub record Turned : Type 0 where
  pub report : Report
  pub left : Ledger

abbrev pub turned : Report → Ledger → Turned
turned R L = record { report = R; left = L }

-- an entry with this line, which would leave M of L: counted and applied, or stopped before it
abbrev pub turn_by : Report → Ledger → Ledger → Line → Turned
turn_by R L M l = cond (eqb (passing R l) 0) (turned (tallied R l) M) (turned (stopped R l) L)

unfoldable pub turn : Report → Ledger → List ℕ → Turned
turn R L bytes = let o = submit L bytes in turn_by R L o.left (line_of L bytes o)

-- a submission that is not refused can settle, with wallets and a journal that are not lent: there are such
pub record Plans (ed : Edition) (header escrows receipts : List ℕ) (decided : Decided) : Type 0 where
  pub wallets : List ℕ
  pub journal : List ℕ
  pub settles : as_number decided.outcome ≡ 0 → Settles (ledger_of ed header wallets escrows receipts journal) decided.submission
