-- `looking::receipt_row` meets its contract.
use native.Mathlib.Omega.{arith}
use Rattle.rules.specs.Limits.{RECEIPT_LEN, MAX_RECEIPTS, RECEIPTS}
use Rattle.rules.proofs.Places.{place_within}
use borrow.Author.Rules.{rules}
use Rattle.looking.proofs.receipt_row.Goals as goal

pub row_part-requires : goal.row_part-requires
row_part-requires c =
    let a = c.args in
    (search rules, omega (arith, place_within a.edition.header RECEIPTS RECEIPT_LEN MAX_RECEIPTS a.header.now a.receipts.now a.n.0))
