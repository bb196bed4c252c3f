-- `envelope::envelope_refusal` meets its contract: one law, from what the search ensures.
use mathlib.Core.Path.{◌∙◌}
use Rattle.rules.proofs.Numbers.{numbered_first}
use Rattle.envelope.proofs.Envelope.{refusal_by}
use Rattle.envelope.proofs.envelope_refusal.Goals as goal

pub returns : goal.returns
returns c =
    let p = c.requires in
    λ K. numbered_first _ c.first_of.ensures ∙ refusal_by K.edition _ K.wallets K.escrows K.receipts _ _ _ p.2 p.3 c.seen.ensures
