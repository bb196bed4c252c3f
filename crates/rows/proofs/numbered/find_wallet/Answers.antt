-- `rows::numbered::find_wallet` meets its contract: the row is within the table, so its frozen word is there, and one more fits.
use native.Mathlib.Omega.{arith}
use Rattle.rows.proofs.Found.{found_missing, found_closed, found_live}
use Rattle.rows.proofs.numbered.find_wallet.Goals as goal

pub returns-then-n-row : goal.returns-then-n-row
returns-then-n-row c = found_missing _ _ _ _ c.find_row-row.ensures c.if-n-row.true

pub returns-then-wallets-row-eq-IS_CLOSED : goal.returns-then-wallets-row-eq-IS_CLOSED
returns-then-wallets-row-eq-IS_CLOSED c = found_closed _ _ _ _ c.find_row-row.ensures (omega (arith, c.if-n-row.false)) c.if-wallets-row-eq-IS_CLOSED.true

pub returns : goal.returns
returns c = found_live _ _ _ _ c.find_row-row.ensures (omega (arith, c.if-n-row.false)) c.if-wallets-row-eq-IS_CLOSED.false
