-- `editions::lengths_right` meets its contract.
use Rattle.editions.proofs.Starts.{lengths_by}
use Rattle.editions.proofs.lengths_right.Goals as goal

pub returns : goal.returns
returns c =
    let a = c.args.ledger in
    lengths_by a.edition a.header.now a.wallets.now a.escrows.now a.receipts.now a.journal.now c.table_right-w.ensures c.table_right-e.ensures c.table_right-r.ensures c.table_right-j.ensures
