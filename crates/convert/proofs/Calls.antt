-- FROM THE CODE: a call that converts and one that replays what it left, each by its own contract. The first left what the definitions convert to, the
-- second found what they replay, and of these two `converted_replays` speaks.
use mathlib.Core.Path.{◌≡◌, sym, ap, ◌∙◌, subst}
use mathlib.Core.List.{List}
use Prim.Native.Nat.{ℕ}
use Rattle.rules.specs.Submit.{submit}
use Rattle.rules.specs.Replay.{Gone, gone, verdict_of, told, replay}
use Rattle.rules.specs.Convert.{converted}
use Rattle.rules.specs.Converted.{old_rule, DifferInReplies}
use Rattle.rules.specs.Results.{Meets}
use Rattle.rules.specs.Runs.{Surface, ConversionsReplay}
use Rattle.rules.specs.declared.Verdict.{Verdict}
use Rattle.convert.proofs.Replays.{converted_replays}

pub conversions_replay : (S : Surface) → ConversionsReplay S
conversions_replay S d again old new lent left v x y =
    let e : new ≡ converted old = subst (Meets S.edition) x (S.meets d) in
    let g : gone v left ≡ told (replay submit lent (converted old)) =
    (subst (Meets S.edition) y (S.meets again)).1 ∙ ap (λ (r : List ℕ). told (replay submit lent r)) e in
    let alike = converted_replays lent old in (
      ap (λ (z : Gone Verdict). z.found) g ∙ ap verdict_of alike.found,
      subst (DifferInReplies (replay old_rule lent old).left) (sym (ap (λ (z : Gone Verdict). z.left) g)) alike.left,
    )
