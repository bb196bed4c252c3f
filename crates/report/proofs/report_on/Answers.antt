-- `report::report_on` meets its contract. The invariant: k entries were read, what is left to read gives the whole, nothing is named yet, and the tables
-- are ready for the next entry.
use mathlib.Core.Path.{refl}
use Rattle.report.proofs.Laws.{part_length, reporting_none, one_more, stops_so, all_read}
use native.Mathlib.Omega.{arith}
use borrow.Author.Rules.{rules}
use Rattle.report.proofs.report_on.Goals as goal

pub loop-k-init : goal.loop-k-init
loop-k-init c = (
  record { edition = refl; header = refl; wallets = refl; escrows = refl; receipts = refl; journal = refl },
  reporting_none _ _ _ c.requires.1 c.requires.2,
)

pub count_entry-more-requires : goal.count_entry-more-requires
count_entry-more-requires c = (c.requires.0, c.loop-k.invariant.1.ready, part_length c.args.recording.now _ c.loop-k-test.true)

pub returns-then-named-ne0 : goal.returns-then-named-ne0
returns-then-named-ne0 c = stops_so c.args.recording.now _ c.loop-k.invariant.1 c.loop-k-test.true c.count_entry-more.ensures c.if-named-ne0.true

pub loop-k-preserved : goal.loop-k-preserved
loop-k-preserved c = (
  record {
    edition = refl;
    header = search rules;
    wallets = search rules;
    escrows = search rules;
    receipts = search rules;
    journal = search rules;
  },
  one_more c.args.recording.now _ c.loop-k.invariant.1 c.loop-k-test.true c.count_entry-more.ensures c.requires.0 c.if-named-ne0.false,
)

pub returns : goal.returns
returns c = all_read c.args.recording.now _ c.loop-k.invariant.1 (omega arith)
