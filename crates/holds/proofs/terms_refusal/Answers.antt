-- `holds::terms_refusal` meets its contract: what each part refuses, and what it lets pass, are the first of the rows of all.
use mathlib.Core.Path.{◌∙◌}
use mathlib.Core.List.{◌++◌}
use Rattle.rules.specs.Ledger.{Ledger, ledger_of}
use Rattle.rules.specs.Refusals.{first}
use Rattle.rules.proofs.Numbers.{numbered_first, refused, passed, refused_by, passed_by}
use Rattle.holds.specs.Terms.{link_refusals}
use Rattle.holds.proofs.Claim.{room, linked, unlinked, timed, link_numbered}
use Rattle.holds.proofs.terms_refusal.Goals as goal
use Rattle.holds.proofs.terms_refusal.Goals.{After-first_of, then-s-ne0+in_ok-link_refusal, else-s-ne0}

-- the ledger that is lent
abbrev L : After-first_of → Ledger → Ledger
L c K = ledger_of c.args.edition c.args.header.now K.wallets c.args.escrows.now c.args.receipts.now c.args.journal.now

pub returns-in_err-first_of : goal.returns-in_err-first_of
returns-in_err-first_of c =
    λ K. refused _ _ _ c.first_of.ensures c.in_err-first_of.was c.from_residual.ensures
    ∙ timed (L (goal.at.returns-in_err-first_of c).After-first_of K) c.args.s

pub returns-in_err-link_refusal : goal.returns-in_err-link_refusal
returns-in_err-link_refusal c =
    λ K.
    let M = L (goal.at.returns-in_err-link_refusal c).After-first_of K in
    let rows = link_refusals M c.args.s in
    refused_by _ rows (room M) (c.link_refusal.ensures M) c.in_err-link_refusal.was c.from_residual-in_err-link_refusal.ensures
    ∙ passed _ (first (rows ++ room M)) c.first_of.ensures c.in_ok-first_of.was
    ∙ linked M c.args.s c.if-s-ne0.true

pub returns : goal.returns
returns c =
    λ K.
    let M = L (goal.at.returns c).After-first_of K in
    let rows = link_refusals M c.args.s in
    numbered_first _ c.first_of-2.ensures
    ∙ elim c.if-s-ne0.branch [
      | then-s-ne0+in_ok-link_refusal w ↦
          passed_by rows (room M) (link_numbered M c.args.s) (w.link_refusal.ensures M) w.in_ok-link_refusal.was
          ∙ passed _ (first (rows ++ room M)) c.first_of.ensures c.in_ok-first_of.was
          ∙ linked M c.args.s w.if-s-ne0.true
      | else-s-ne0 w ↦ passed _ (first (room M)) c.first_of.ensures c.in_ok-first_of.was ∙ unlinked M c.args.s w.if-s-ne0.false
    ]
