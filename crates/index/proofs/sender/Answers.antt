-- `index::sender` meets its contract: a proposal that has the id is its wallet's number, and where there is none, `look_on` answers.
use mathlib.Core.Path.{◌∙◌}
use borrow.Author.Rules.{rules}
use Rattle.index.proofs.Laws.{proposed_or, sender_and}
use Rattle.index.proofs.sender.Goals as goal

pub returns : goal.returns
returns c =
    let a = c.args in
    let from = proposed_or a.w.now a.n a.ids.now a.t.now a.from _ _ c.requires c.proposed.ensures (λ k. search rules) c.or_else-sender.ensures in
    let to = proposed_or a.w.now a.n a.ids.now a.t.now a.to _ _ c.requires c.proposed-2.ensures (λ k. search rules) c.or_else-recipient.ensures in
    c.and.ensures ∙ sender_and a.w.now a.n a.from a.to _ _ from to
