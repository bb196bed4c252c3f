-- `holds::claim_refusal` meets its contract: each arm is told what was found of the provider and of the requester.
use mathlib.Core.Path.{◌≡◌, refl, sym, ◌∙◌}
use Rattle.rules.specs.Moments.{ledger_in}
use Rattle.rules.specs.Refusals.{first, operation_refusals}
use Rattle.rules.specs.declared.WalletState.{WalletState}
use Rattle.holds.specs.Terms.{term_refusals}
use Rattle.holds.proofs.Claim.{by_parties, claim_by, claim_invalid}
use Rattle.holds.proofs.claim_refusal.Goals as goal
use Rattle.holds.proofs.claim_refusal.Goals.{After-find_wallet-requester}

pub returns-then-s : goal.returns-then-s
returns-then-s c = claim_invalid _ _ c.requires.4 c.if-s.true

-- what is answered, by both parties
by : (c : After-find_wallet-requester) {provider requester : WalletState} → c.find_wallet-provider.result ≡ provider → c.find_wallet-requester.result ≡ requester
    → by_parties (first (term_refusals (ledger_in c.args.ledger) c.args.s)) provider requester ≡ first (operation_refusals (ledger_in c.args.ledger) c.args.s)
by c p q = claim_by _ _ _ _ c.requires.4 c.if-s.false (sym p ∙ c.find_wallet-provider.ensures) (sym q ∙ c.find_wallet-requester.ensures)

pub returns-in-Missing-Missing : goal.returns-in-Missing-Missing
returns-in-Missing-Missing c = by (goal.at.returns-in-Missing-Missing c).After-find_wallet-requester c.in-Missing-Missing.is-0 c.in-Missing-Missing.is-1

pub returns-in-Missing-Live : goal.returns-in-Missing-Live
returns-in-Missing-Live c = by (goal.at.returns-in-Missing-Live c).After-find_wallet-requester c.in-Missing-Live.is-0 c.in-Missing-Live.is-1

pub returns-in-Live-Missing : goal.returns-in-Live-Missing
returns-in-Live-Missing c = by (goal.at.returns-in-Live-Missing c).After-find_wallet-requester c.in-Live-Missing.is-0 c.in-Live-Missing.is-1

pub returns-in-Live-Live : goal.returns-in-Live-Live
returns-in-Live-Live c = c.terms_refusal.ensures (ledger_in c.args.ledger)
    ∙ by (goal.at.returns-in-Live-Live c).After-find_wallet-requester c.in-Live-Live.is-0 c.in-Live-Live.is-1

pub returns-in-Closed-default : goal.returns-in-Closed-default
returns-in-Closed-default c = by (goal.at.returns-in-Closed-default c).After-find_wallet-requester c.in-Closed-default.is-0 refl

pub returns-in-Closed-default-2 : goal.returns-in-Closed-default-2
returns-in-Closed-default-2 c = by (goal.at.returns-in-Closed-default-2 c).After-find_wallet-requester c.in-Closed-default.is-0 c.in-Closed-default.is-1

pub returns-in-Closed-default-3 : goal.returns-in-Closed-default-3
returns-in-Closed-default-3 c = by (goal.at.returns-in-Closed-default-3 c).After-find_wallet-requester c.in-Closed-default.is-0 c.in-Closed-default.is-1
