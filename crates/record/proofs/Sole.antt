-- Any two answers that a public contract of `record` permits are equal, and the output left too: each contract is an equation, of what an answer is read
-- as or of its number, and these decide it.
use Rattle.std.specs.Prelude.{Option, Result}
use mathlib.Core.Path.{◌≡◌, sym, ap, ap₂, ◌∙◌}
use mathlib.Core.List.{List}
use Prim.Native.Nat.{ℕ}
use Rattle.rules.specs.Numbers.{as_number}
use Rattle.rules.specs.Record.{read_of, Written}
use Rattle.rules.specs.Results.{Sole}
use Rattle.rules.specs.declared.Submission.{Submission}
use Rattle.rules.specs.declared.refusal.Refusal.{Refusal}
use Rattle.rules.proofs.Numbers.{same_outcome, same_read}
use Rattle.rules.proofs.Sole.{one}
use Rattle.record.proofs.read_record.Kinds as read_kinds
use Rattle.record.proofs.read_record.Reads as read_reads
use Rattle.record.proofs.read_by.Kinds as read_by_kinds
use Rattle.record.proofs.read_by.Reads as read_by_reads
use Rattle.record.proofs.write_record.Kinds as write_kinds
use Rattle.record.proofs.write_record.Reads as write_reads
use Rattle.record.proofs.trips.write_read.Kinds as write_read_kinds
use Rattle.record.proofs.trips.write_read.Reads as write_read_reads
use Rattle.record.proofs.trips.read_write.Kinds as read_write_kinds
use Rattle.record.proofs.trips.read_write.Reads as read_write_reads

-- a reader's answer, and the bytes lent to it
pub sole_read : Sole read_kinds.ps read_kinds.r read_reads.Learnt (Option Submission × List ℕ) (λ κs x e. (x, e.0.now))
sole_read κs a x y v w p q = ap (λ (o : Option Submission). (o, a.0.now)) (same_read _ _ (one p q))

pub sole_read_by : Sole read_by_kinds.ps read_by_kinds.r read_by_reads.Learnt (Option Submission × List ℕ) (λ κs x e. (x, e.1.0.now))
sole_read_by κs a x y v w p q = ap (λ (o : Option Submission). (o, a.1.0.now)) (same_read _ _ (one p q))

-- a writer's answer, and the output
abbrev Left : Type 0
Left = Result Unit Refusal × List ℕ

left : (x y : Result Unit Refusal) (out out' : List ℕ)
    → ◌≡◌ {A = Written} (record { number = as_number x; out = out }) (record { number = as_number y; out = out' }) → ◌≡◌ {A = Left} (x, out) (y, out')
left x y out out' e =
    ap₂ (λ (r : Result Unit Refusal) (o : List ℕ). (r, o)) (same_outcome x y (ap (λ (w : Written). w.number) e)) (ap (λ (w : Written). w.out) e)

pub sole_write : Sole write_kinds.ps write_kinds.r write_reads.Learnt Left (λ κs x e. (x, e.1.0.now))
sole_write κs a x y v w p q = left _ _ _ _ (one p q)

pub sole_write_read : Sole write_read_kinds.ps write_read_kinds.r write_read_reads.Learnt (Option Submission × List ℕ) (λ κs x e. (x, e.1.0.now))
sole_write_read κs a x y v w p q =
    let outs = one p.0 q.0 in
    ap₂ (λ (o : Option Submission) (out : List ℕ). (o, out)) (same_read _ _ (p.1 ∙ ap read_of outs ∙ sym q.1)) outs

pub sole_read_write : Sole read_write_kinds.ps read_write_kinds.r read_write_reads.Learnt (Left × List ℕ) (λ κs x e. ((x, e.1.0.now), e.0.now))
sole_read_write κs a x y v w p q = ap (λ (r : Left). (r, a.0.now)) (left _ _ _ _ (one p.0 q.0))
