-- The two moments of a call: the ledger at entry, as the call finds the tables that it is lent, and at exit, as it leaves them.
-- A function that is lent all five tables speaks of `lent`. One that is lent only some speaks of any ledger K with those in the place of K's
-- own, `any K with_header header with_wallets wallets`, and so names no table and no edition that it does not see. A table that is lent only to
-- be read stands under `seeing_` in the place of `with_`; where all five are, they are lent as one, `ledger_in`.
use Rattle.std.specs.Prelude.{List, ℕ}
use Rattle.std.specs.Borrow.{Bor, MutBor}
use denote.Triple.Both.{Both}
use Rattle.rules.specs.declared.tables.Tables.{Tables}
use Rattle.rules.specs.Ledger.{Edition, Ledger, ledger_of, set_edition, set_header, set_wallets, set_escrows, set_receipts, set_journal}

infixl 5 ◌of_edition◌ ◌with_header◌ ◌with_wallets◌ ◌with_escrows◌ ◌with_receipts◌ ◌with_journal◌
infixl 5 ◌seeing_header◌ ◌seeing_wallets◌ ◌seeing_escrows◌ ◌seeing_receipts◌ ◌seeing_journal◌
-- a slice of words lent to be written: a `requires` sees it at entry, an `ensures` at both moments
abbrev pub Slice : Type 0
Slice = MutBor (List ℕ)

abbrev pub Loan : Type 0
Loan = Both Slice Slice

-- the same of one lent to be read
abbrev pub View : Type 0
View = Bor (List ℕ)

abbrev pub Sight : Type 0
Sight = Both View View

-- all five
abbrev pub tables : Edition → Slice → Slice → Slice → Slice → Slice → Ledger
tables edition header wallets escrows receipts journal = ledger_of edition header.now wallets.now escrows.now receipts.now journal.now

abbrev pub Moments : Type 0
Moments = Both Ledger Ledger

abbrev pub lent : Edition → Loan → Loan → Loan → Loan → Loan → Moments
lent edition h w e r j = record {
  entry = tables edition h.entry w.entry e.entry r.entry j.entry;
  exit = tables edition h.exit w.exit e.exit r.exit j.exit;
}

-- some of them: any ledger, the same at both moments, and then what is lent in the place of its own
abbrev pub any : Ledger → Moments
any K = record { entry = K; exit = K }

abbrev pub ◌of_edition◌ : Moments → Edition → Moments
◌of_edition◌ L edition = record { entry = set_edition edition L.entry; exit = set_edition edition L.exit }

abbrev laid : (List ℕ → Ledger → Ledger) → Moments → Loan → Moments
laid set L t = record { entry = set t.entry.now L.entry; exit = set t.exit.now L.exit }

abbrev pub ◌with_header◌ : Moments → Loan → Moments
◌with_header◌ = laid set_header

abbrev pub ◌with_wallets◌ : Moments → Loan → Moments
◌with_wallets◌ = laid set_wallets

abbrev pub ◌with_escrows◌ : Moments → Loan → Moments
◌with_escrows◌ = laid set_escrows

abbrev pub ◌with_receipts◌ : Moments → Loan → Moments
◌with_receipts◌ = laid set_receipts

abbrev pub ◌with_journal◌ : Moments → Loan → Moments
◌with_journal◌ = laid set_journal

abbrev sighted : (List ℕ → Ledger → Ledger) → Moments → Sight → Moments
sighted set L t = record { entry = set t.entry.now L.entry; exit = set t.exit.now L.exit }

abbrev pub ◌seeing_header◌ : Moments → Sight → Moments
◌seeing_header◌ = sighted set_header

abbrev pub ◌seeing_wallets◌ : Moments → Sight → Moments
◌seeing_wallets◌ = sighted set_wallets

abbrev pub ◌seeing_escrows◌ : Moments → Sight → Moments
◌seeing_escrows◌ = sighted set_escrows

abbrev pub ◌seeing_receipts◌ : Moments → Sight → Moments
◌seeing_receipts◌ = sighted set_receipts

abbrev pub ◌seeing_journal◌ : Moments → Sight → Moments
◌seeing_journal◌ = sighted set_journal

-- all five lent together to be read, as a struct of the code has them
abbrev pub ledger_in : Tables → Ledger
ledger_in t = ledger_of t.edition t.header.now t.wallets.now t.escrows.now t.receipts.now t.journal.now
