-- Any two answers that a public contract of `ledger` permits are equal, and so are the words left: each contract is an equation, so both are
-- what the definition gives, and number and word decide an answer.
use Rattle.std.specs.Prelude.{Result}
use mathlib.Core.Path.{ap, ap₂}
use mathlib.Core.List.{List}
use Prim.Native.Nat.{ℕ}
use Rattle.rules.specs.Ledger.{Ledger, Outcome}
use Rattle.rules.specs.Results.{Sole, Pair, pair}
use Rattle.rules.specs.declared.WalletState.{WalletState}
use Rattle.rules.specs.declared.refusal.Refusal.{Refusal}
use Rattle.rules.proofs.Numbers.{same_outcome, same_answer}
use Rattle.rules.proofs.Sole.{one}
use Rattle.ledger.proofs.Surface.{five}
use Rattle.ledger.proofs.fresh.Kinds as fresh_kinds
use Rattle.ledger.proofs.fresh.Reads as fresh_reads
use Rattle.ledger.proofs.submit.Kinds as submit_kinds
use Rattle.ledger.proofs.submit.Reads as submit_reads
use Rattle.ledger.proofs.lookups.wallet_row.Kinds as wallet_kinds
use Rattle.ledger.proofs.lookups.wallet_row.Reads as wallet_reads
use Rattle.ledger.proofs.lookups.escrow_place.Kinds as escrow_place_kinds
use Rattle.ledger.proofs.lookups.escrow_place.Reads as escrow_place_reads
use Rattle.ledger.proofs.lookups.receipt_place.Kinds as receipt_place_kinds
use Rattle.ledger.proofs.lookups.receipt_place.Reads as receipt_place_reads
use Rattle.ledger.proofs.lookups.escrow_row.Kinds as escrow_row_kinds
use Rattle.ledger.proofs.lookups.escrow_row.Reads as escrow_row_reads
use Rattle.ledger.proofs.lookups.receipt_row.Kinds as receipt_row_kinds
use Rattle.ledger.proofs.lookups.receipt_row.Reads as receipt_row_reads

-- an answer, which its number decides, or its number and its word; and the five tables
pub sole_fresh : Sole fresh_kinds.ps fresh_kinds.r fresh_reads.Learnt (Result Unit Refusal × Ledger) (λ κs x e. (x, five e))
sole_fresh κs a x y v w p q =
    let same = one p q in
    ap₂ (λ (r : Result Unit Refusal) (L : Ledger). (r, L)) (same_outcome x y (ap (λ (o : Outcome). o.number) same)) (ap (λ (o : Outcome). o.left) same)

pub sole_submit : Sole submit_kinds.ps submit_kinds.r submit_reads.Learnt (Result ℕ Refusal × Ledger) (λ κs x e. (x, five e))
sole_submit κs a x y v w p q =
    let same = one p q in
    ap₂ (λ (r : Result ℕ Refusal) (L : Ledger). (r, L))
    (same_answer x y (ap (λ (o : Outcome). o.number) same) (ap (λ (o : Outcome). o.word) same)) (ap (λ (o : Outcome). o.left) same)

-- what was found of a wallet, or a place, and the two slices lent
pub sole_wallet_row : Sole wallet_kinds.ps wallet_kinds.r wallet_reads.Learnt (WalletState × Pair) (λ κs x e. (x, pair e.0.now e.1.0.now))
sole_wallet_row κs a x y v w p q = ap (λ (s : WalletState). (s, pair a.0.now a.1.0.now)) (one p q)

pub sole_escrow_place : Sole escrow_place_kinds.ps escrow_place_kinds.r escrow_place_reads.Learnt (ℕ × Pair) (λ κs x e. (x, pair e.0.now e.1.0.now))
sole_escrow_place κs a x y v w p q = ap (λ (n : ℕ). (n, pair a.0.now a.1.0.now)) (one p q)

pub sole_receipt_place : Sole receipt_place_kinds.ps receipt_place_kinds.r receipt_place_reads.Learnt (ℕ × Pair) (λ κs x e. (x, pair e.0.now e.1.0.now))
sole_receipt_place κs a x y v w p q = ap (λ (n : ℕ). (n, pair a.0.now a.1.0.now)) (one p q)

-- a part: its words, and its place in the caller's memory
pub record Part : Type 0 where
  pub words : List ℕ
  pub place : ℕ × ℕ
  pub lent : Pair

abbrev part : Pair → List ℕ → ℕ × ℕ → Part
part lent words place = record { words = words; place = place; lent = lent }

pub sole_escrow_row : Sole escrow_row_kinds.ps escrow_row_kinds.r escrow_row_reads.Learnt Part (λ κs x e. part (pair e.0.now e.1.0.now) x.now x.ref_ptr)
sole_escrow_row κs a x y v w p q = ap₂ (part (pair a.0.now a.1.0.now)) (one p.0 q.0) (one p.1 q.1)

pub sole_receipt_row : Sole receipt_row_kinds.ps receipt_row_kinds.r receipt_row_reads.Learnt Part (λ κs x e. part (pair e.0.now e.1.0.now) x.now x.ref_ptr)
sole_receipt_row κs a x y v w p q = ap₂ (part (pair a.0.now a.1.0.now)) (one p.0 q.0) (one p.1 q.1)
