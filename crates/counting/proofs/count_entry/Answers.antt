-- `counting::count_entry` meets its contract: what was decided, the row and what will be added make the entry's line (`Found`), and the line says whether
-- a figure would pass (Laws.antt).
use mathlib.Core.Path.{refl, ◌∙◌}
use mathlib.Core.List.{[]}
use Rattle.rules.specs.Ledger.{Ledger, ledger_of}
use Rattle.editions.proofs.Submits.{settles_so}
use Rattle.counting.proofs.Laws.{Found, as_read, number_read, adds_by, left_by, named_so, row_in, column_in, stops_here, figures_fit, cell_fits, counts_here}
use Rattle.counting.proofs.count_entry.Goals as goal
use Rattle.counting.proofs.count_entry.Goals.{After-planned-adds}

-- what has been found once it was worked out what will be added
abbrev first : After-planned-adds → Ledger
first c = ledger_of c.args.edition c.args.header.now c.args.wallets.now c.args.escrows.now c.args.receipts.now c.args.journal.now

found : (c : After-planned-adds) → Found (first c) c.args.bytes.now (as_read c.number-answer.result c.decide-decided.result.submission) c.row_of-row.result c.planned-adds.result
found c = record {
  is = number_read c.decide-decided.result c.number-answer.ensures c.decide-decided.ensures;
  row_is = c.row_of-row.ensures;
  adds_is =
      adds_by (first c) c.decide-decided.result c.number-answer.ensures
      (c.planned-adds.ensures (ledger_of c.args.edition [] c.args.wallets.now [] [] c.args.journal.now)
      (settles_so (first c) _ c.requires.1 _ c.decide-decided.ensures c.requires.0));
}

pub planned-adds-requires : goal.planned-adds-requires
planned-adds-requires c = record {
  wallets = c.args.wallets.now;
  journal = c.args.journal.now;
  settles = settles_so _ _ c.requires.1 _ c.decide-decided.ensures c.requires.0;
}

pub count-count-requires : goal.count-count-requires
count-count-requires c = let f = found (goal.at.count-count-requires c).After-planned-adds in (row_in f, column_in f)

pub returns-in-Some : goal.returns-in-Some
returns-in-Some c =
    stops_here (found (goal.at.returns-in-Some c).After-planned-adds) _ _ _ c.count-count.ensures (c.from.ensures ∙ c.in-Some.ensures)
    (named_so c.in-Some.past c.from.ensures)

pub summed-requires : goal.summed-requires
summed-requires c =
    figures_fit (found (goal.at.summed-requires c).After-planned-adds) c.args.grid c.args.figures.now c.args.named.now c.count-count.ensures c.in_default.ensures refl

pub apply-requires : goal.apply-requires
apply-requires c = settles_so _ _ c.requires.1 _ c.decide-decided.ensures c.requires.0

pub raise-requires : goal.raise-requires
raise-requires c =
    let f = found (goal.at.raise-requires c).After-planned-adds in
    (row_in f, column_in f, cell_fits f c.args.grid c.args.figures.now c.args.named.now c.count-count.ensures c.in_default.ensures refl)

pub returns : goal.returns
returns c =
    counts_here (found (goal.at.returns c).After-planned-adds) _ _ _ c.count-count.ensures c.in_default.ensures refl
    c.summed.ensures (left_by (first (goal.at.returns c).After-planned-adds) c.decide-decided.result c.number-answer.ensures c.apply.ensures) c.raise.ensures
