-- Which operation uses what: the code's tests of the operation against the paper's table, by one computed claim over the operations for each form.
-- Then the code's tests of the fields are those of the definition.
use mathlib.Core.Path.{◌≡◌, refl, sym, ap, ◌∙◌}
use mathlib.Core.List.{List, [], ◌∷◌}
use mathlib.Core.Bool.{Bool, true, false, not, ◌&&◌, ◌||◌}
use Prim.Native.Nat.{ℕ, zero, suc, ◌≤◌, ◌<◌, ◌+◌}
use native.Mathlib.Omega.{arith}
use lib.Dec.{T, eqb, ltb, leb}
use lib.ListN.{get_or}
use borrow.Author.Tests.{leb-true, ne_eqb}
use Rattle.rules.specs.Limits.{GRANT, TRANSFER, OPEN, RELEASE, REFUND, CLAIM, REPLY, OLD_DISPUTE, SWEEP, FREEZE, CAPS, CLOSE, LAST_OPERATION, LAST_TIME_MS}
use Rattle.rules.specs.Table.{all, every}
use Rattle.rules.specs.Record.{bit, in_form, uses_of, used_or_zero, bits_apart, well_formed_by}
use denote.Enum.Bare.{sameb}
use Rattle.rules.specs.contracts.Form.{the_type}
use Rattle.rules.specs.declared.Form.{Form}
use Rattle.rules.specs.declared.Form.TheVariants.{Old, Today}
use Rattle.rules.specs.declared.Submission.{Submission}
use Rattle.rules.proofs.Bools.{all_at, or_other, not_true_false}
use Rattle.rules.proofs.Below.{below}

-- ---- which of the two forms it is, as the code asks for it
abbrev is_today : Form → Bool
is_today f = sameb the_type f Today

-- ---- the code's tests of an operation
abbrev is_envelope : ℕ → Bool
is_envelope op = not (eqb op SWEEP)

abbrev is_admin : ℕ → Bool
is_admin op = eqb op GRANT || (eqb op RELEASE || (eqb op REFUND || (eqb op FREEZE || (eqb op CAPS || eqb op CLOSE))))

abbrev is_reply : Bool → ℕ → Bool
is_reply today op = today && eqb op REPLY

abbrev is_auto_freeze_or_accept : Bool → ℕ → Bool
is_auto_freeze_or_accept today op = eqb op CLAIM || (eqb op FREEZE || is_reply today op)

abbrev is_reason : Bool → ℕ → Bool
is_reason today op = is_reply today op || (not today && eqb op OLD_DISPUTE)

abbrev is_amount : ℕ → Bool
is_amount op = eqb op GRANT || (eqb op TRANSFER || (eqb op OPEN || (eqb op SWEEP || eqb op CAPS)))

abbrev is_until : ℕ → Bool
is_until op = eqb op OPEN || eqb op CLAIM

abbrev is_link : ℕ → Bool
is_link op = eqb op CLAIM || eqb op CAPS

abbrev is_hash : ℕ → Bool
is_hash op = eqb op CLAIM

-- ---- they are the table's, for operations 1 to 12
abbrev same : Bool → Bool → Bool
same true b = b
same false b = not b

same_eq : (a b : Bool) → same a b ≡ true → a ≡ b
same_eq true b e = sym e
same_eq false b e = sym (not_true_false b e)

-- bit k of what operation op uses
abbrev uses_bit : Form → ℕ → ℕ → Bool
uses_bit f k op = eqb (bit k (uses_of f op).bits) 1

abbrev pairs : Bool → Form → ℕ → List Bool
pairs today f op =
    same (uses_bit f 0 op) (is_envelope op) ∷ same (uses_bit f 1 op) (is_admin op) ∷ same (uses_bit f 2 op) (is_auto_freeze_or_accept today op)
    ∷ same (uses_bit f 3 op) (is_reason today op)
    ∷ same (uses_of f op).envelope (is_envelope op) ∷ same (uses_of f op).target (is_envelope op) ∷ same (uses_of f op).amount (is_amount op)
    ∷ same (uses_of f op).until (is_until op) ∷ same (uses_of f op).link (is_link op) ∷ same (uses_of f op).hash (is_hash op) ∷ []

-- what is no operation of the form is not asked about
abbrev skipped : Form → ℕ → Bool
skipped f op = eqb op 0 || not (in_form f op)

claim : (f : Form) → T (every (LAST_OPERATION + 1) (λ op. skipped f op || all (pairs (is_today f) f op)))
unfolding every uses_of
claim Old = tt
claim Today = tt

-- any one of them, by its place
holds : (b : Bool) → T b → b ≡ true
holds true t = refl
holds false t = absurd t

agree : (f : Form) (op : ℕ) → 1 ≤ op → op ≤ LAST_OPERATION → in_form f op ≡ true → (k : ℕ) → get_or (pairs (is_today f) f op) k true ≡ true
agree f op a b known k =
    let e = holds _ (below (λ op. skipped f op || all (pairs (is_today f) f op)) (LAST_OPERATION + 1) (claim f) op (omega arith)) in
    all_at (pairs (is_today f) f op) (or_other (skipped f op) (all (pairs (is_today f) f op)) (rw (ne_eqb op 0 (omega arith), known)) e) k

-- ---- the fields, by any tests of what is used: the definition's tests in their order
abbrev rest_by : Bool → Bool → Bool → Bool → Bool → Bool → Bool → Bool → Bool → Bool → Submission → List Bool
rest_by b0 b1 b2 b3 e t a u l h s =
    all (used_or_zero b0 (bit 0 s.flags) ∷ used_or_zero b1 (bit 1 s.flags) ∷ used_or_zero b2 (bit 2 s.flags) ∷ used_or_zero b3 (bit 3 s.flags) ∷ ltb s.flags 16 ∷ [])
    ∷ bits_apart s.flags
    ∷ used_or_zero e s.signer ∷ used_or_zero e s.nonce ∷ used_or_zero e s.issued ∷ used_or_zero e s.expires
    ∷ used_or_zero t s.target ∷ used_or_zero a s.amount ∷ used_or_zero u s.until ∷ used_or_zero l s.link
    ∷ used_or_zero h s.hash0 ∷ used_or_zero h s.hash1 ∷ used_or_zero h s.hash2 ∷ used_or_zero h s.hash3
    ∷ (eqb s.op SWEEP || not (eqb s.signer 0))
    ∷ leb s.now LAST_TIME_MS ∷ leb s.issued LAST_TIME_MS ∷ leb s.expires LAST_TIME_MS ∷ leb s.until LAST_TIME_MS
    ∷ leb s.issued s.expires ∷ []

-- by the code's
abbrev code_tests : Bool → Submission → List Bool
code_tests today s =
    let op = s.op in
    rest_by (is_envelope op) (is_admin op) (is_auto_freeze_or_accept today op) (is_reason today op) (is_envelope op) (is_envelope op) (is_amount op) (is_until op) (is_link op) (is_hash op) s

abbrev pub code_formed : Bool → Submission → Bool
code_formed today s = leb 1 s.op && (leb s.op LAST_OPERATION && (not (today && eqb s.op OLD_DISPUTE) && all (code_tests today s)))

-- by the table's
abbrev table_tests : Form → Submission → List Bool
table_tests f s =
    let op = s.op in
    let v = uses_of f op in
    rest_by (uses_bit f 0 op) (uses_bit f 1 op) (uses_bit f 2 op) (uses_bit f 3 op) v.envelope v.target v.amount v.until v.link v.hash s

-- which is what the definition says: a bit is at most what is used of it, or it is used or zero
bit_free : (k flags used : ℕ) → leb (bit k flags) (bit k used) ≡ used_or_zero (eqb (bit k used) 1) (bit k flags)
bit_free k flags used = go (bit k flags) (bit k used) (omega arith) (omega arith)
  where
    go : (b u : ℕ) → b < 2 → u < 2 → leb b u ≡ eqb u 1 || eqb b 0
    go zero zero hb hu = refl
    go zero (suc zero) hb hu = refl
    go (suc zero) zero hb hu = refl
    go (suc zero) (suc zero) hb hu = refl
    go (suc (suc b)) u hb hu = absurd (omega arith)
    go zero (suc (suc u)) hb hu = absurd (omega arith)
    go (suc zero) (suc (suc u)) hb hu = absurd (omega arith)

defined : (f : Form) (s : Submission) → leb 1 s.op && (leb s.op LAST_OPERATION && (in_form f s.op && all (table_tests f s))) ≡ well_formed_by f s
unfolding well_formed_by
defined f s =
    let flags = s.flags in
    let u = (uses_of f s.op).bits in
    rw (bit_free 0 flags u, bit_free 1 flags u, bit_free 2 flags u, bit_free 3 flags u)

-- only the operations of the form are asked about
guarded : (a b c : Bool) {x y : Bool} → (a ≡ true → b ≡ true → c ≡ true → x ≡ y) → a && (b && (c && x)) ≡ a && (b && (c && y))
guarded true true true f = f refl refl refl
guarded true true false f = refl
guarded true false c f = refl
guarded false b c f = refl

-- the code's test of whether it is one
known : (f : Form) (op : ℕ) → not (is_today f && eqb op OLD_DISPUTE) ≡ in_form f op
known Old op = refl
known Today op = refl

pub formed : (f : Form) (s : Submission) {t : Bool} → t ≡ is_today f → code_formed t s ≡ well_formed_by f s
formed f s today =
    ap (λ (t : Bool). code_formed t s) today
    ∙ ap (λ (k : Bool). leb 1 s.op && (leb s.op LAST_OPERATION && (k && all (code_tests (is_today f) s)))) (known f s.op)
    ∙ guarded (leb 1 s.op) (leb s.op LAST_OPERATION) (in_form f s.op) (λ a b k. alike (agree f s.op (leb-true 1 s.op a) (leb-true s.op LAST_OPERATION b) k))
    ∙ defined f s
  where
    alike : ((k : ℕ) → get_or (pairs (is_today f) f s.op) k true ≡ true) → all (code_tests (is_today f) s) ≡ all (table_tests f s)
    alike at =
        let op = s.op in
        let v = uses_of f s.op in
        rw (
          same_eq (uses_bit f 0 s.op) (is_envelope s.op) (at 0),
          same_eq (uses_bit f 1 s.op) (is_admin s.op) (at 1),
          same_eq (uses_bit f 2 s.op) (is_auto_freeze_or_accept (is_today f) s.op) (at 2),
          same_eq (uses_bit f 3 s.op) (is_reason (is_today f) s.op) (at 3),
          same_eq v.envelope (is_envelope s.op) (at 4),
          same_eq v.target (is_envelope s.op) (at 5),
          same_eq v.amount (is_amount s.op) (at 6),
          same_eq v.until (is_until s.op) (at 7),
          same_eq v.link (is_link s.op) (at 8),
          same_eq v.hash (is_hash s.op) (at 9),
        )
