-- What `envelope_refusal` answers is the first of checks 4 to 11, over plain values.
use mathlib.Core.Path.{◌≡◌, refl, subst}
use mathlib.Core.List.{List}
use mathlib.Core.Bool.{Bool, true, false, not, cond, ◌&&◌, ◌||◌, or-false}
use Prim.Native.Nat.{ℕ, ◌+◌, ◌-◌, ◌≤◌}
use native.Mathlib.Omega.{arith}
use lib.ListN.{get_or}
use lib.Dec.{T, eqb, ltb}
use Rattle.rules.specs.Limits.{GRANT, SWEEP, FREEZE, CAPS, CLOSE, LAST_OPERATION, SIGNATURE_HELD, ADMIN, SYSTEM_FROZEN, CLOCK, ENTRIES, MAX_SKEW_MS, MAX_ENVELOPE_MS}
use Rattle.rules.specs.Table.{every}
use Rattle.rules.specs.Ledger.{ledger_of}
use Rattle.rules.specs.Sound.{between}
use Rattle.rules.specs.Refusals.{first, one_of, signed, clear, seen_in, seen, envelope_refusals}
use Rattle.rules.specs.declared.Edition.{Edition}
use Rattle.rules.specs.declared.Submission.{Submission}
use Rattle.rules.proofs.Below.{below}

-- two tests that agree
same : (a b : Bool) → T (cond a b (not b)) → a ≡ b
same true true t = refl
same true false t = absurd t
same false true t = absurd t
same false false t = refl

-- of the operations, all but the sweep are signed
abbrev agree : ℕ → Bool
agree k = let b = not (eqb (k + 1) SWEEP) in cond (one_of signed (k + 1)) b (not b)

pub signed_is : (op : ℕ) → 1 ≤ op → op ≤ LAST_OPERATION → one_of signed op ≡ not (eqb op SWEEP)
unfolding every
signed_is op lo hi =
    let e : op - 1 + 1 ≡ op = omega arith in
    subst (λ (n : ℕ). one_of signed n ≡ not (eqb n SWEEP)) e (same _ _ (below agree LAST_OPERATION tt (op - 1) (omega arith)))

pub refusal_by :
    (ed : Edition) (h w e r j : List ℕ) (s : Submission) (used : Bool)
    → 1 ≤ s.op
    → s.op ≤ LAST_OPERATION
    → used ≡ seen_in j (get_or h ENTRIES 0) s.signer s.nonce
    → cond (ltb s.now (get_or h CLOCK 0)) 4
    (cond (between GRANT SWEEP s.op && eqb (get_or h SYSTEM_FROZEN 0) 1) 5
    (cond (not (eqb s.op SWEEP) && clear s SIGNATURE_HELD) 6
    (cond ((eqb s.op GRANT || (eqb s.op FREEZE || (eqb s.op CAPS || eqb s.op CLOSE))) && clear s ADMIN) 7
    (cond (not (eqb s.op SWEEP) && ltb (s.now + MAX_SKEW_MS) s.issued) 8
    (cond (not (eqb s.op SWEEP) && ltb s.expires s.now) 9
    (cond (not (eqb s.op SWEEP) && ltb (s.issued + MAX_ENVELOPE_MS) s.expires) 10
    (cond (not (eqb s.op SWEEP) && used) 11 0)))))))
    ≡ first (envelope_refusals (ledger_of ed h w e r j) s)
unfolding envelope_refusals seen seen_in
refusal_by ed h w e r j s used lo hi u = cc (signed_is s.op lo hi, or-false (eqb s.op CLOSE))
