-- Any two answers that the contract of an entry point permits are equal, and so are the words left: each contract is an equation, so both are
-- what the definition gives.
use mathlib.Core.Path.{ap}
use mathlib.Core.List.{List}
use Prim.Native.Nat.{ℕ}
use Rattle.rules.specs.Ledger.{Outcome, outcome}
use Rattle.rules.specs.Record.{Written}
use Rattle.rules.specs.Replay.{Gone, gone}
use Rattle.rules.specs.Report.{Reported, report_of, telling}
use Rattle.rules.specs.Results.{Sole, Pair, pair}
use Rattle.rules.specs.declared.Read.{Read}
use Rattle.rules.specs.declared.Standing.{Standing}
use Rattle.rules.specs.declared.Verdict.{Verdict}
use Rattle.rules.proofs.Sole.{one}
use Rattle.ledger.proofs.Surface.{five}
use Rattle.milebeacon.proofs.milebeacon_fresh.Kinds as fresh_kinds
use Rattle.milebeacon.proofs.milebeacon_fresh.Reads as fresh_reads
use Rattle.milebeacon.proofs.milebeacon_submit.Kinds as submit_kinds
use Rattle.milebeacon.proofs.milebeacon_submit.Reads as submit_reads
use Rattle.milebeacon.proofs.milebeacon_read.Kinds as read_kinds
use Rattle.milebeacon.proofs.milebeacon_read.Reads as read_reads
use Rattle.milebeacon.proofs.milebeacon_write.Kinds as write_kinds
use Rattle.milebeacon.proofs.milebeacon_write.Reads as write_reads
use Rattle.milebeacon.proofs.milebeacon_status.Kinds as status_kinds
use Rattle.milebeacon.proofs.milebeacon_status.Reads as status_reads
use Rattle.milebeacon.proofs.milebeacon_convert.Kinds as convert_kinds
use Rattle.milebeacon.proofs.milebeacon_convert.Reads as convert_reads
use Rattle.milebeacon.proofs.milebeacon_wallet_row.Kinds as wallet_kinds
use Rattle.milebeacon.proofs.milebeacon_wallet_row.Reads as wallet_reads
use Rattle.milebeacon.proofs.milebeacon_escrow_place.Kinds as escrow_place_kinds
use Rattle.milebeacon.proofs.milebeacon_escrow_place.Reads as escrow_place_reads
use Rattle.milebeacon.proofs.milebeacon_receipt_place.Kinds as receipt_place_kinds
use Rattle.milebeacon.proofs.milebeacon_receipt_place.Reads as receipt_place_reads
use Rattle.milebeacon.proofs.milebeacon_report.Kinds as report_kinds
use Rattle.milebeacon.proofs.milebeacon_report.Reads as report_reads
use Rattle.milebeacon.proofs.milebeacon_replay.Kinds as replay_kinds
use Rattle.milebeacon.proofs.milebeacon_replay.Reads as replay_reads

pub sole_fresh : Sole fresh_kinds.ps fresh_kinds.r fresh_reads.Learnt Outcome (λ κs x e. outcome x 0 (five e))
sole_fresh κs a x y v w p q = one p q

pub sole_submit : Sole submit_kinds.ps submit_kinds.r submit_reads.Learnt Outcome (λ κs x e. outcome x.number x.word (five e))
sole_submit κs a x y v w p q = one p q

pub sole_read : Sole read_kinds.ps read_kinds.r read_reads.Learnt (Read × List ℕ) (λ κs x e. (x, e.0.now))
sole_read κs a x y v w p q = ap (λ (r : Read). (r, a.0.now)) (one p q)

pub sole_write : Sole write_kinds.ps write_kinds.r write_reads.Learnt Written (λ κs x e. record { number = x; out = e.1.0.now })
sole_write κs a x y v w p q = one p q

pub sole_status : Sole status_kinds.ps status_kinds.r status_reads.Learnt ℕ (λ κs x e. x)
sole_status κs a x y v w p q = one p q

-- the bytes left
pub sole_convert : Sole convert_kinds.ps convert_kinds.r convert_reads.Learnt (List ℕ) (λ κs x e. e.0.now)
sole_convert κs a x y v w p q = one p q

-- what was found of a wallet, in numbers, or a place, and the two slices lent
pub sole_wallet_row : Sole wallet_kinds.ps wallet_kinds.r wallet_reads.Learnt (Standing × Pair) (λ κs x e. (x, pair e.0.now e.1.0.now))
sole_wallet_row κs a x y v w p q = ap (λ (s : Standing). (s, pair a.0.now a.1.0.now)) (one p q)

pub sole_escrow_place : Sole escrow_place_kinds.ps escrow_place_kinds.r escrow_place_reads.Learnt (ℕ × Pair) (λ κs x e. (x, pair e.0.now e.1.0.now))
sole_escrow_place κs a x y v w p q = ap (λ (n : ℕ). (n, pair a.0.now a.1.0.now)) (one p q)

pub sole_receipt_place : Sole receipt_place_kinds.ps receipt_place_kinds.r receipt_place_reads.Learnt (ℕ × Pair) (λ κs x e. (x, pair e.0.now e.1.0.now))
sole_receipt_place κs a x y v w p q = ap (λ (n : ℕ). (n, pair a.0.now a.1.0.now)) (one p q)

pub sole_replay : Sole replay_kinds.ps replay_kinds.r replay_reads.Learnt (Gone Verdict) (λ κs x e. gone x (five e))
sole_replay κs a x y v w p q = one p q

-- what is told, the report and the five tables as they are left
pub sole_report :
    Sole report_kinds.ps report_kinds.r report_reads.Learnt Reported
    (λ κs x e.
    telling x.number x.entries
    (report_of e.1.1.1.1.1.1.0.now e.1.1.1.1.1.1.1.0.now e.1.1.1.1.1.1.1.1.0.now) (five e))
sole_report κs a x y v w p q = one p q
