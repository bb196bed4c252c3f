-- `looking::wallet_row` meets its contract.
use Rattle.looking.proofs.Parts.{not_asked, searched}
use Rattle.looking.proofs.wallet_row.Goals as goal

pub returns-then-right-id : goal.returns-then-right-id
returns-then-right-id c =
    let a = c.args in
    not_asked a.edition a.header.now a.wallets.now a.id c.count_right-right.ensures c.if-right-id.true

pub returns : goal.returns
returns c =
    let a = c.args in
    searched a.edition a.header.now a.wallets.now a.id c.count_right-right.ensures c.if-right-id.false c.at-n.ensures c.find_wallet.ensures
