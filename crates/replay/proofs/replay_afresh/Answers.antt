-- `replay::replay_afresh` meets its contract: what starting answered says whether the lengths are right; if they are, the tables are ready for
-- the first entry.
use mathlib.Core.Path.{sym, ap, ◌∙◌}
use Rattle.rules.specs.Numbers.{as_number}
use Rattle.rules.proofs.Numbers.{not_0}
use Rattle.replay.proofs.Afresh.{wrong_length, ready_first, replayed}
use Rattle.replay.proofs.replay_afresh.Goals as goal

pub replay_on-requires : goal.replay_on-requires
replay_on-requires c = (c.requires, ready_first _ _ c.requires c.fresh.ensures (ap as_number c.in-Ok.is))

pub returns-in-Ok : goal.returns-in-Ok
returns-in-Ok c = replayed _ c.args.recording.now _ _ _ c.fresh.ensures (ap as_number c.in-Ok.is) c.replay_on.ensures

pub returns-in-Err : goal.returns-in-Err
returns-in-Err c =
    wrong_length _ c.args.recording.now _ _ c.fresh.ensures (λ z. not_0 _ (sym (ap as_number c.in-Err.is) ∙ z))
