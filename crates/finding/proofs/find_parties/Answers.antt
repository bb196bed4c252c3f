-- `finding::find_parties` meets its contract: each wallet is looked up if the operation names it.
use Rattle.finding.proofs.Laws.{by_parties}
use Rattle.finding.proofs.find_parties.Goals as goal

pub returns : goal.returns
returns c = by_parties _ _ _ c.names_signer.ensures c.names_target.ensures c.find_if-signer.ensures c.find_if-target.ensures
