-- P1 to P12 and the cases of the requests hold of the definitions: no case of the table fails. Each case is a claim of its own, which the checker computes through the
-- records' bytes; the label stands first in it, so that the checker's message names the case that fails.
use mathlib.Core.Path.{◌≡◌, refl}
use mathlib.Core.List.{List, [], ◌∷◌}
use mathlib.Core.Bool.{true}
use Prim.Native.Nat.{ℕ}
use Rattle.rules.specs.Table.{sum, every, some, seek, loop}
use Rattle.rules.specs.Ledger.{row_of, put_head, put_wallet, put_escrow, put_receipt, new_wallet, new_escrow, new_receipt, new_entry, lengths_right, fresh}
use Rattle.rules.specs.Wallets.{open_to}
use Rattle.rules.specs.Record.{uses_of, well_formed_by, decode, encode, accepted_by, read_by}
use Rattle.rules.specs.Sound.{held_in, credits, sound}
use Rattle.rules.specs.Refusals.{seen_in, seen, counted_of, counted, entry_refusals, envelope_refusals, operation_refusals_by, refusals_by}
use Rattle.rules.specs.Settle.{raise, lower, ensure_wallet, end_escrow, close_receipt, accept_row, close_due_receipt, close_due_escrow, sweep_receipt, sweep_escrow, swept_receipts, swept, reply}
use Rattle.rules.specs.Settle.{grant, transfer, open_escrow, release, refund, claim, accept, dispute, sweep, freeze, caps, close, operate_by, enter, settle_by}
use Rattle.rules.specs.Submit.{answer_by, submit_read_by, submit_by}
use Rattle.rules.specs.Recording.{entry_at, entries_from}
use Rattle.rules.specs.Replay.{through, compared, ended, replay_on, replay}
use Rattle.rules.specs.Report.{ended_as, adds_of, tallied, passing, stopped, reported, report_on, report}
use Rattle.rules.specs.Convert.{old_operation, converted_at, converted}
use Rattle.rules.specs.Trials.{Trial, Case, holds, failing}
use Rattle.rules.specs.Cases.{cases}

abbrev Goes : ℕ → Trial → Type 0
Goes label trial = holds trial ≡ true

abbrev Each : List Case → Type 0
Each [] = Unit {0}
Each (c ∷ cs) = Goes c.label c.trial × Each cs

each_goes : Each cases
unfolding sum every some seek loop row_of put_head put_wallet put_escrow put_receipt new_wallet new_escrow new_receipt new_entry lengths_right fresh open_to uses_of well_formed_by decode encode accepted_by read_by held_in credits sound seen_in seen counted_of counted entry_refusals envelope_refusals operation_refusals_by refusals_by raise lower ensure_wallet end_escrow close_receipt accept_row close_due_receipt close_due_escrow sweep_receipt sweep_escrow swept_receipts swept grant transfer open_escrow release refund claim accept dispute reply sweep freeze caps close operate_by enter settle_by answer_by submit_read_by submit_by entry_at entries_from through compared ended replay_on replay ended_as adds_of tallied passing stopped reported report_on report old_operation converted_at converted
each_goes = (refl, (refl, (refl, (refl, (refl, (refl, (refl, (refl, (refl, (refl, (refl, (refl, (refl, (refl, (refl, (refl, (refl, (refl, (refl, (refl, (refl, (refl, (refl, (refl, (refl, (refl, (refl, (refl, (refl, (refl, (refl, (refl, (refl, (refl, (refl, (refl, (refl, (refl, (refl, (refl, (refl, (refl, (refl, (refl, (refl, (refl, (refl, (refl, (refl, (refl, (refl, (refl, (refl, (refl, (refl, (refl, (refl, (refl, (refl, (refl, (refl, (refl, (refl, (refl, (refl, (refl, (refl, (refl, tt))))))))))))))))))))))))))))))))))))))))))))))))))))))))))))))))))))

none_fails : (cs : List Case) → Each cs → failing cs ≡ []
none_fails [] e = refl
none_fails (c ∷ cs) (e, es) = rw (e, none_fails cs es)

pub cases_go : failing cases ≡ []
cases_go = none_fails cases each_goes
