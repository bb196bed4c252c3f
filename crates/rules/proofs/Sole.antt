-- Any two answers that the contract of `status` permits are equal, and any two of a conversion into numbers; and how every such law is proved: the
-- contract is an equation, so both are what the definition gives.
use mathlib.Core.Path.{◌≡◌, sym, ◌∙◌}
use Prim.Native.Nat.{ℕ}
use Rattle.rules.specs.Results.{Sole}
use Rattle.rules.proofs.status.Kinds as status_kinds
use Rattle.rules.proofs.status.Reads as status_reads
use Rattle.std.specs.Prelude.{Result}
use Rattle.rules.specs.declared.Answer.{Answer}
use Rattle.rules.specs.declared.operation.NoOperation.{NoOperation}
use Rattle.rules.specs.declared.operation.Operation.{Operation}
use Rattle.rules.proofs.Decoded.{same_decoded}
use Rattle.rules.specs.declared.Read.{Read}
use Rattle.rules.specs.declared.Standing.{Standing}
use Rattle.rules.specs.declared.Verdict.{Verdict}
use Rattle.rules.proofs.AnswerFromResultU64Refusal.from.Kinds as answer_kinds
use Rattle.rules.proofs.AnswerFromResultU64Refusal.from.Reads as answer_reads
use Rattle.rules.proofs.ReadFromOptionSubmission.from.Kinds as read_kinds
use Rattle.rules.proofs.ReadFromOptionSubmission.from.Reads as read_reads
use Rattle.rules.proofs.StandingFromWalletState.from.Kinds as standing_kinds
use Rattle.rules.proofs.StandingFromWalletState.from.Reads as standing_reads
use Rattle.rules.proofs.VerdictFromFound.from.Kinds as verdict_kinds
use Rattle.rules.proofs.VerdictFromFound.from.Reads as verdict_reads
use Rattle.rules.proofs.refusal.U64FromRefusal.from.Kinds as refusal_kinds
use Rattle.rules.proofs.refusal.U64FromRefusal.from.Reads as refusal_reads
use Rattle.rules.proofs.operation.OperationTryFromU8.try_from.Kinds as operation_kinds
use Rattle.rules.proofs.operation.OperationTryFromU8.try_from.Reads as operation_reads
use Rattle.rules.proofs.refusal.number.Kinds as number_kinds
use Rattle.rules.proofs.refusal.number.Reads as number_reads

pub one : {A : Type 0} {x y a : A} → x ≡ a → y ≡ a → x ≡ y
one p q = p ∙ sym q

pub sole_status : Sole status_kinds.ps status_kinds.r status_reads.Learnt ℕ (λ κs x e. x)
sole_status κs a x y v w p q = one p q

pub sole_answer : Sole answer_kinds.ps answer_kinds.r answer_reads.Learnt Answer (λ κs x e. x)
sole_answer κs a x y v w p q = one p q

pub sole_read : Sole read_kinds.ps read_kinds.r read_reads.Learnt Read (λ κs x e. x)
sole_read κs a x y v w p q = one p q

pub sole_standing : Sole standing_kinds.ps standing_kinds.r standing_reads.Learnt Standing (λ κs x e. x)
sole_standing κs a x y v w p q = one p q

pub sole_verdict : Sole verdict_kinds.ps verdict_kinds.r verdict_reads.Learnt Verdict (λ κs x e. x)
sole_verdict κs a x y v w p q = one p q

pub sole_refusal_number : Sole refusal_kinds.ps refusal_kinds.r refusal_reads.Learnt ℕ (λ κs x e. x)
sole_refusal_number κs a x y v w p q = one p q

pub sole_number : Sole number_kinds.ps number_kinds.r number_reads.Learnt ℕ (λ κs x e. x)
sole_number κs a x y v w p q = one p q

pub sole_operation : Sole operation_kinds.ps operation_kinds.r operation_reads.Learnt (Result Operation NoOperation) (λ κs x e. x)
sole_operation κs a x y v w p q = same_decoded _ x y p q
