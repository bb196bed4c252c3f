-- `editions::submit` meets its contract: a wrong length and a ledger that is not sound are answered as the definition answers them (Submits.antt);
-- otherwise the ledger is ready for `step`, whose contract is this one.
use mathlib.Core.Path.{sym, ◌∙◌}
use Rattle.editions.proofs.Submits.{bad_table, damaged}
use Rattle.editions.proofs.submit.Goals as goal

pub returns-then-not-lengths_right : goal.returns-then-not-lengths_right
returns-then-not-lengths_right c = bad_table _ _ (sym c.lengths_right.ensures ∙ c.if-not-lengths_right.true)

pub is_sound-requires : goal.is_sound-requires
is_sound-requires c = (sym c.lengths_right.ensures ∙ c.if-not-lengths_right.false, c.requires)

pub returns-then-not-is_sound : goal.returns-then-not-is_sound
returns-then-not-is_sound c =
    damaged _ _ (sym c.lengths_right.ensures ∙ c.if-not-lengths_right.false) (sym c.is_sound.ensures ∙ c.if-not-is_sound.true)

pub step-requires : goal.step-requires
step-requires c =
    (c.requires, record { lengths = sym c.lengths_right.ensures ∙ c.if-not-lengths_right.false; sound = sym c.is_sound.ensures ∙ c.if-not-is_sound.false })
