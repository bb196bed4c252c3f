-- `adding::sweep_adds` meets its contract: the receipts, then the escrows with the room that is left.
use Rattle.rules.specs.Ledger.{set_receipts}
use Rattle.adding.proofs.Escrows.{swept_figures}
use Rattle.adding.proofs.Figures.{unmarked}
use Rattle.adding.proofs.sweep_adds.Goals as goal

pub receipt_turns-accepts-requires : goal.receipt_turns-accepts-requires
receipt_turns-accepts-requires c = (c.requires, unmarked)

pub returns : goal.returns
returns c =
    λ K g. swept_figures _ _ _ _ _ (c.escrow_turns-expired.ensures (set_receipts _ K) _ _ (c.receipt_turns-accepts.ensures.1 K g))
