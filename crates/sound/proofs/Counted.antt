-- What right lengths and a right header say of the counts.
use mathlib.Core.Path.{◌≡◌}
use mathlib.Core.Bool.{true}
use mathlib.Core.List.{List}
use Prim.Native.Nat.{ℕ, ◌*◌, ◌≤◌}
use lib.ListN.{length}
use Rattle.rules.specs.Limits.{HEADER_LEN, WALLET_LEN, RECEIPT_LEN, JOURNAL_LEN}
use Rattle.rules.specs.Table.{all}
use Rattle.rules.specs.Ledger.{Sized, Ledger, ledger_of, lengths_right, wallet_count, escrow_count, receipt_count, entry_count}
use Rattle.rules.specs.declared.Edition.{Edition}
use Rattle.rules.specs.Sound.{header_tests}
use Rattle.rules.specs.Promises.{Within}
use Rattle.rules.proofs.Rows.{rows_fit}
use Rattle.rules.proofs.Tests.{lengths_say, header_wide, counts_few, header_says}
use Rattle.sound.specs.Parts.{Tables}

module _ (ed : Edition) (h w e r j : List ℕ) (x : (lengths_right (ledger_of ed h w e r j) ≡ true) × Sized ed) where
  abbrev L : Ledger
  L = ledger_of ed h w e r j

  pub header_there : HEADER_LEN ≤ length h
  header_there = header_wide L x.0 x.1.header

  pub escrow_row : ed.escrow ≤ length e
  escrow_row = (lengths_say L x.0).escrows.one

  module _ (y : all (header_tests L) ≡ true) where
    within : Within L
    within = (header_says L y).within

    pub rows_within : Tables ed.escrow w (wallet_count L) e (escrow_count L)
    rows_within =
        let few = counts_few L x.0 within in
        record {
          wide = x.1.escrow;
          wallets = rows_fit WALLET_LEN _ w within.wallets;
          few = few.wallets;
          escrows = rows_fit ed.escrow _ e within.escrows;
          fewer = few.escrows;
        }

    pub receipt_rows : receipt_count L * RECEIPT_LEN ≤ length r
    receipt_rows = rows_fit RECEIPT_LEN _ r within.receipts

    pub entry_rows : entry_count L * JOURNAL_LEN ≤ length j
    entry_rows = rows_fit JOURNAL_LEN _ j within.journal
