-- `looking::escrow_row` meets its contract.
use native.Mathlib.Omega.{arith}
use Rattle.rules.specs.Limits.{MAX_ESCROWS, ESCROWS}
use Rattle.rules.proofs.Places.{place_within}
use borrow.Author.Rules.{rules}
use Rattle.looking.proofs.escrow_row.Goals as goal

pub row_part-requires : goal.row_part-requires
row_part-requires c =
    let a = c.args in
    (search rules, omega (arith, place_within a.edition.header ESCROWS a.edition.escrow MAX_ESCROWS a.header.now a.escrows.now a.n.0))
