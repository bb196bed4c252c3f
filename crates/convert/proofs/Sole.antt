-- Any two recordings that the contract of `convert` permits to be left are equal: it is an equation, so both are what the definition gives.
use mathlib.Core.List.{List}
use Prim.Native.Nat.{ℕ}
use Rattle.rules.specs.Results.{Sole}
use Rattle.rules.proofs.Sole.{one}
use Rattle.convert.proofs.convert.Kinds as convert_kinds
use Rattle.convert.proofs.convert.Reads as convert_reads

pub sole_convert : Sole convert_kinds.ps convert_kinds.r convert_reads.Learnt (List ℕ) (λ κs x e. e.0.now)
sole_convert κs a x y v w p q = one p q
