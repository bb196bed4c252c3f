-- What a good ledger with small counts gives the moves: an open escrow can end, and a written receipt can be accepted.
use mathlib.Core.Path.{◌≡◌}
use mathlib.Core.List.{List, []}
use mathlib.Core.Bool.{true}
use Prim.Native.Nat.{ℕ, ◌-◌, ◌<◌, ◌^◌}
use native.Mathlib.Omega.{arith}
use lib.ListN.{get_or}
use lib.Dec.{eqb, leb}
use Rattle.rules.specs.Limits.{WALLET_LEN, WALLETS, ESCROWS, RECEIPTS, FROM, TO, ESCROW_STATE, ESCROW_DEADLINE, IS_OPEN, RECEIPT_LINK}
use Rattle.rules.specs.Table.{word}
use Rattle.rules.specs.Ledger.{ledger_of, wallet_row, escrow, receipt}
use Rattle.rules.specs.declared.Edition.{Edition}
use Rattle.rules.proofs.Bools.{and_fst}
use Rattle.rules.proofs.Rows.{rows_fit}
use Rattle.rules.proofs.Good.{Good, from_written, to_written, escrow_held, balance_most, amount_most}
use Rattle.rules.proofs.Stays.{link_row}
use Rattle.moves.specs.Needs.{Small, Counted, Ends, Accepts}

module _ (ed : Edition) (len : ed.escrow < 2 ^ 16) (h w e r : List ℕ) (small : Small h) (good : Good (ledger_of ed h w e r [])) where
  pub counted_of : Counted h w
  counted_of = record { whole = small.whole; most = small.wallets; there = rows_fit WALLET_LEN (get_or h WALLETS 0) w good.wallets_in }

  pub ends_of : (i : ℕ) → i < get_or h ESCROWS 0 → eqb (word e ed.escrow i ESCROW_STATE) IS_OPEN ≡ true → Ends ed h w e i
  ends_of i l o =
      let L = ledger_of ed h w e r [] in
      let a = amount_most L good i l in
      record {
        counted = counted_of;
        len = len;
        held = escrow_held L good i l o;
        back = omega (arith, a, balance_most L good (wallet_row L (escrow L i FROM)) (from_written L good i l));
        paid = omega (arith, a, balance_most L good (wallet_row L (escrow L i TO)) (to_written L good i l));
      }

  pub accepts_of : (now i : ℕ) → i < get_or h RECEIPTS 0 → Accepts ed h w e r now i
  accepts_of now i l =
      let L = ledger_of ed h w e r [] in
      let k = receipt L i RECEIPT_LINK in
      record {
        len = len;
        link = omega (arith, small.escrows, good.links i l);
        ends = λ ne o. ends_of (k - 1) (link_row L good i l ne)
            (and_fst (eqb (escrow L (k - 1) ESCROW_STATE) IS_OPEN) (leb now (escrow L (k - 1) ESCROW_DEADLINE)) o);
      }
