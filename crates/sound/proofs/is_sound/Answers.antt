-- `sound::is_sound` meets its contract: where the header is right, each pass has its rows within the table, and answers for its own tests.
use native.Mathlib.Omega.{arith}
use mathlib.Core.Path.{sym, ◌∙◌}
use Rattle.sound.proofs.Counted.{header_there, escrow_row, rows_within, receipt_rows}
use Rattle.sound.proofs.Whole.{no_header, no_wallets, no_total, no_parties, no_receipts, the_entries}
use Rattle.sound.proofs.is_sound.Goals as goal

pub header_right-requires : goal.header_right-requires
header_right-requires c = (header_there _ _ _ _ _ _ c.requires, c.requires.1.escrow)

pub returns-then-not-header_right : goal.returns-then-not-header_right
returns-then-not-header_right c = no_header _ _ _ _ _ _ _ c.header_right.ensures c.if-not-header_right.true

pub bounds-header-4 : goal.bounds-header-4
bounds-header-4 c = omega (arith, header_there _ _ _ _ _ _ c.requires)

pub bounds-header-5 : goal.bounds-header-5
bounds-header-5 c = omega (arith, header_there _ _ _ _ _ _ c.requires)

pub returns-then-not-wallets_right : goal.returns-then-not-wallets_right
returns-then-not-wallets_right c =
    no_wallets _ _ _ _ _ _ (sym c.header_right.ensures ∙ c.if-not-header_right.false) _ c.wallets_right.ensures c.if-not-wallets_right.true

pub bounds-header-3 : goal.bounds-header-3
bounds-header-3 c = omega (arith, header_there _ _ _ _ _ _ c.requires)

pub returns-then-not-total_right : goal.returns-then-not-total_right
returns-then-not-total_right c =
    no_total _ _ _ _ _ _ (sym c.header_right.ensures ∙ c.if-not-header_right.false) _ c.total_right.ensures c.if-not-total_right.true

pub parties_right-requires : goal.parties_right-requires
parties_right-requires c = rows_within _ _ _ _ _ _ c.requires (sym c.header_right.ensures ∙ c.if-not-header_right.false)

pub returns-then-not-parties_right : goal.returns-then-not-parties_right
returns-then-not-parties_right c =
    no_parties _ _ _ _ _ _ (sym c.header_right.ensures ∙ c.if-not-header_right.false) _ c.parties_right.ensures c.if-not-parties_right.true

pub bounds-header-6 : goal.bounds-header-6
bounds-header-6 c = omega (arith, header_there _ _ _ _ _ _ c.requires)

pub receipts_right-requires : goal.receipts_right-requires
receipts_right-requires c = (
  (rows_within _ _ _ _ _ _ c.requires (sym c.header_right.ensures ∙ c.if-not-header_right.false)).escrows,
  escrow_row _ _ _ _ _ _ c.requires,
  receipt_rows _ _ _ _ _ _ c.requires (sym c.header_right.ensures ∙ c.if-not-header_right.false),
  c.requires.1.escrow,
)

pub returns-then-not-receipts_right : goal.returns-then-not-receipts_right
returns-then-not-receipts_right c =
    no_receipts _ _ _ _ _ _ (sym c.header_right.ensures ∙ c.if-not-header_right.false) _ c.receipts_right.ensures c.if-not-receipts_right.true

pub bounds-header-7 : goal.bounds-header-7
bounds-header-7 c = omega (arith, header_there _ _ _ _ _ _ c.requires)

pub returns : goal.returns
returns c =
    the_entries _ _ _ _ _ _ (sym c.header_right.ensures ∙ c.if-not-header_right.false) _ _ _ _ _
    c.wallets_right.ensures c.if-not-wallets_right.false
    c.total_right.ensures c.if-not-total_right.false
    c.parties_right.ensures c.if-not-parties_right.false
    c.receipts_right.ensures c.if-not-receipts_right.false
    c.entries_right.ensures
