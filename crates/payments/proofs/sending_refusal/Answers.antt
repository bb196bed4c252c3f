-- `payments::sending_refusal` meets its contract: a closed recipient is refused, and the limits are told whether it needs a row.
use mathlib.Core.Path.{◌∙◌}
use Prim.Native.Nat.{◌-◌}
use Rattle.rules.proofs.Numbers.{numbered_first}
use Rattle.payments.proofs.Recipient.{recipient_refused, recipient_passed}
use Rattle.payments.proofs.Paying.{limits, sending_by}
use Rattle.payments.proofs.sending_refusal.Goals as goal

pub returns-in_err-needs_row : goal.returns-in_err-needs_row
returns-in_err-needs_row c =
    let start = c.args in
    let checks = limits start.edition start.header.now start.wallets.now start.escrows.now start.journal.now start.s (start.sender.0 - 1) in
    λ K. sending_by _ _ _ _ K.receipts _ _ _ _ c.requires.6 (recipient_refused _ checks _ c.needs_row.ensures c.in_err-needs_row.was c.from_residual.ensures)

pub returns : goal.returns
returns c =
    let start = c.args in
    let checks = limits start.edition start.header.now start.wallets.now start.escrows.now start.journal.now start.s (start.sender.0 - 1) in
    λ K.
    numbered_first _ c.first_of.ensures
    ∙ sending_by _ _ _ _ K.receipts _ _ _ _ c.requires.6
    (rw (c.exceeds-daily_cap_exceeded.ensures, c.wallet-balance.ensures, c.wallet-tx_cap.ensures, c.wallet-daily_cap.ensures, c.counted-spent.ensures)
    (recipient_passed checks _ c.needs_row.ensures c.in_ok-needs_row.was))
