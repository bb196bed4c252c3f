-- A record that is well formed names an operation; and a byte names one or none, as the contract says of it.
use Rattle.std.specs.Prelude.{◌≡◌, ◌≢◌, ℕ, ◌≤◌, List, [], ◌∷◌, Option, None, Some, Result, Ok, Err, slice_index_or}
use mathlib.Core.Path.{refl, sym, ap, ◌∙◌}
use Rattle.rules.specs.Limits.{LAST_OPERATION, OLD_DISPUTE}
use Rattle.rules.specs.Operations.{code_of, Decodes}
use Rattle.rules.specs.declared.operation.NoOperation.{NoOperation}
use Rattle.rules.specs.declared.operation.Operation.{Operation}
use Rattle.rules.specs.declared.operation.Operation.TheVariants.{Grant, Transfer, Open, Release, Refund, Claim, Reply, Sweep, Freeze, Caps, Close}
use Rattle.rules.proofs.Calls.{by_op}

pub no_other : {op : ℕ} → ((o : Operation) → op ≢ code_of o) → 1 ≤ op → op ≤ LAST_OPERATION → op ≢ OLD_DISPUTE → ⊥
no_other {op} n low high not_8 =
    by_op (λ _. ⊥) op low high not_8
    (n Grant) (n Transfer) (n Open) (n Release) (n Refund) (n Claim) (n Reply) (n Sweep) (n Freeze) (n Caps) (n Close)

-- ---- any two answers to a byte are the same

-- the names in the order of their numbers; 8 is none's
abbrev names : List (Option Operation)
names = None ∷ Some Grant ∷ Some Transfer ∷ Some Open ∷ Some Release ∷ Some Refund ∷ Some Claim ∷ Some Reply ∷ None ∷ Some Sweep ∷ Some Freeze ∷ Some Caps ∷ Some Close ∷ []

abbrev operation_of : ℕ → Option Operation
operation_of n = slice_index_or names n None

back : (o : Operation) → operation_of (code_of o) ≡ Some o
back Grant = refl
back Transfer = refl
back Open = refl
back Release = refl
back Refund = refl
back Claim = refl
back Reply = refl
back Sweep = refl
back Freeze = refl
back Caps = refl
back Close = refl

same_operation : (a b : Operation) → code_of a ≡ code_of b → a ≡ b
same_operation a b e = let q : Some a ≡ Some b = sym (back a) ∙ ap operation_of e ∙ back b in cc

pub same_decoded : (op : ℕ) (x y : Result Operation NoOperation) → Decodes op x → Decodes op y → x ≡ y
same_decoded op (Ok a) (Ok b) p q = ap Ok (same_operation a b (sym p ∙ q))
same_decoded op (Ok a) (Err e) p q = absurd (q.1 a p)
same_decoded op (Err e) (Ok b) p q = absurd (p.1 b q)
same_decoded op (Err d) (Err e) p q = ap (λ (n : ℕ). Err (record { 0 = n })) (p.0 ∙ sym q.0)
