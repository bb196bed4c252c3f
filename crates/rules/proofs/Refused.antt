-- Laws of the table of refusals. Of any list of rows: the answer is 0 exactly if no row holds, else the number of the first that holds; a
-- group that refuses is the whole answer, and one that does not leaves it to the next. Of the table: its numbers are 1 to the last answer's,
-- which is computed, and in what order they stand is nowhere asked. Proofs ask for a row by its number (`passed`), so a row put in between
-- moves none of them.
use mathlib.Core.Path.{◌≡◌, refl, sym, ap, ◌∙◌}
use mathlib.Core.Logic.{◌≢◌}
use mathlib.Core.List.{List, [], ◌∷◌, ◌++◌}
use mathlib.Core.Bool.{Bool, true, false, not, cond, ◌&&◌, ◌||◌}
use Prim.Native.Nat.{ℕ, ◌≤◌, ◌<◌}
use native.Mathlib.Omega.{arith}
use lib.Dec.{eqb, ltb, leb}
use borrow.Author.Tests.{ltb-true, leb-true, eq-eqb, eqb-false}
use Rattle.rules.specs.Limits.{LAST_ANSWER}
use Rattle.rules.specs.Ledger.{Ledger}
use Rattle.rules.specs.Refusals.{Refusal, row, first, refusals_by, refusals, entry_refusals, envelope_refusals, operation_refusals_by, operation_refusals}
use Rattle.rules.specs.Submit.{answer_by, answer_of}
use Rattle.rules.specs.Promises.{none, IsFirst}
use Rattle.rules.specs.declared.Read.{Read}
use Rattle.rules.proofs.Bools.{and_intro, and_fst, and_snd, or_fst, or_snd, or_other, not_true_false, cond_case}

-- whether the row of number n holds
abbrev pub holds_of : List Refusal → ℕ → Bool
holds_of [] n = false
holds_of (r ∷ rs) n = cond (eqb r.number n) r.holds (holds_of rs n)

-- no row has the number 0, which says that none holds; none has one above high
abbrev pub numbered : List Refusal → Bool
numbered [] = true
numbered (r ∷ rs) = ltb 0 r.number && numbered rs

abbrev pub at_most : ℕ → List Refusal → Bool
at_most high [] = true
at_most high (r ∷ rs) = leb r.number high && at_most high rs

-- one row
pub first_past : (r : Refusal) (rs : List Refusal) → r.holds ≡ false → first (r ∷ rs) ≡ first rs
first_past r rs e = ap (λ (b : Bool). cond b r.number (first rs)) e

pub first_here : (r : Refusal) (rs : List Refusal) → r.holds ≡ true → first (r ∷ rs) ≡ r.number
first_here r rs e = ap (λ (b : Bool). cond b r.number (first rs)) e

clear_here : (r : Refusal) (rs : List Refusal) → none (r ∷ rs) ≡ true → r.holds ≡ false
clear_here r rs h = not_true_false r.holds (and_fst (not r.holds) (none rs) h)

-- a group that refuses is the whole answer
pub first_stop : (xs ys : List Refusal) → first xs ≢ 0 → first (xs ++ ys) ≡ first xs
first_stop [] ys h = absurd (h refl)
first_stop (r ∷ xs) ys h = go r.holds refl (first_stop xs ys)
  where
    go : (b : Bool) → r.holds ≡ b → (first xs ≢ 0 → first (xs ++ ys) ≡ first xs) → first (r ∷ (xs ++ ys)) ≡ first (r ∷ xs)
    go true e ih = first_here r (xs ++ ys) e ∙ sym (first_here r xs e)
    go false e ih = first_past r (xs ++ ys) e ∙ ih (λ z. h (first_past r xs e ∙ z)) ∙ sym (first_past r xs e)

-- one that does not leaves it to the next
pub first_none : (xs ys : List Refusal) → none xs ≡ true → first (xs ++ ys) ≡ first ys
first_none [] ys h = refl
first_none (r ∷ xs) ys h = first_past r (xs ++ ys) (clear_here r xs h) ∙ first_none xs ys (and_snd (not r.holds) (none xs) h)

-- the answer is 0 exactly if no row holds
pub none_of_zero : (rs : List Refusal) → numbered rs ≡ true → first rs ≡ 0 → none rs ≡ true
none_of_zero [] h e = refl
none_of_zero (r ∷ rs) h e = go r.holds refl (none_of_zero rs (and_snd (ltb 0 r.number) (numbered rs) h))
  where
    go : (b : Bool) → r.holds ≡ b → (first rs ≡ 0 → none rs ≡ true) → not r.holds && none rs ≡ true
    go true x ih =
        let p : 0 < r.number = ltb-true 0 r.number (and_fst (ltb 0 r.number) (numbered rs) h) in
        absurd (omega (arith, sym (first_here r rs x) ∙ e))
    go false x ih = ap (λ (b : Bool). not b && none rs) x ∙ ih (sym (first_past r rs x) ∙ e)

pub zero_of_none : (rs : List Refusal) → none rs ≡ true → first rs ≡ 0
zero_of_none [] h = refl
zero_of_none (r ∷ rs) h = first_past r rs (clear_here r rs h) ∙ zero_of_none rs (and_snd (not r.holds) (none rs) h)

pub first_pass : (xs ys : List Refusal) → numbered xs ≡ true → first xs ≡ 0 → first (xs ++ ys) ≡ first ys
first_pass xs ys n e = first_none xs ys (none_of_zero xs n e)

-- no row holds: none of any number does
pub none_by_number : (rs : List Refusal) → none rs ≡ true → (n : ℕ) → holds_of rs n ≡ false
none_by_number [] h n = refl
none_by_number (r ∷ rs) h n =
    cond_case (λ (b : Bool). b ≡ false) (eqb r.number n) r.holds (holds_of rs n) (λ _. clear_here r rs h)
    (λ _. none_by_number rs (and_snd (not r.holds) (none rs) h) n)

-- an answer that is not 0 is the number of the first row that holds
pub first_of : (rs : List Refusal) → first rs ≢ 0 → IsFirst (first rs) rs
first_of [] h = absurd (h refl)
first_of (r ∷ rs) h = go r.holds refl (first_of rs)
  where
    go : (b : Bool) → r.holds ≡ b → (first rs ≢ 0 → IsFirst (first rs) rs) → IsFirst (first (r ∷ rs)) (r ∷ rs)
    go true e ih = record {
      before = [];
      behind = rs;
      parts = λ i. row (sym (first_here r rs e) i) (e i) ∷ rs;
      passed = refl;
    }
    go false e ih =
        let p = ih (λ z. h (first_past r rs e ∙ z)) in
        record {
          before = r ∷ p.before;
          behind = p.behind;
          parts = ap (λ (l : List Refusal). r ∷ l) p.parts ∙ ap (λ (n : ℕ). r ∷ (p.before ++ (row n true ∷ p.behind))) (sym (first_past r rs e));
          passed = ap (λ (b : Bool). not b && none p.before) e ∙ p.passed;
        }

pub first_most : (high : ℕ) (rs : List Refusal) → at_most high rs ≡ true → first rs ≤ high
first_most high [] h = omega arith
first_most high (r ∷ rs) h =
    cond_case (λ (n : ℕ). n ≤ high) r.holds r.number (first rs) (λ _. leb-true r.number high (and_fst (leb r.number high) (at_most high rs) h))
    (λ _. first_most high rs (and_snd (leb r.number high) (at_most high rs) h))

-- a row of the answer's number holds
abbrev pub any_of : List Refusal → ℕ → Bool
any_of [] n = false
any_of (r ∷ rs) n = eqb r.number n && r.holds || any_of rs n

pub first_holds : (rs : List Refusal) (n : ℕ) → n ≢ 0 → first rs ≡ n → any_of rs n ≡ true
first_holds [] n ne e = absurd (ne (sym e))
first_holds (r ∷ rs) n ne e = go r.holds refl (first_holds rs n ne)
  where
    go : (b : Bool) → r.holds ≡ b → (first rs ≡ n → any_of rs n ≡ true) → any_of (r ∷ rs) n ≡ true
    go true x ih = or_fst (eqb r.number n && r.holds) (any_of rs n) (and_intro (eqb r.number n) r.holds (eq-eqb r.number n (sym (first_here r rs x) ∙ e)) x)
    go false x ih = or_snd (eqb r.number n && r.holds) (any_of rs n) (ih (sym (first_past r rs x) ∙ e))

-- the row of number m stands before that of number n
abbrev pub stands : List Refusal → ℕ → ℕ → Bool
stands [] m n = false
stands (r ∷ rs) m n = not (eqb r.number n) && (eqb r.number m || stands rs m n)

-- a row that stands before that of the answer does not hold
pub first_passed : (rs : List Refusal) (m n : ℕ) → n ≢ 0 → first rs ≡ n → stands rs m n ≡ true → holds_of rs m ≡ false
first_passed [] m n ne e before = refl
first_passed (r ∷ rs) m n ne e before = go r.holds refl (first_passed rs m n ne)
  where
    go : (b : Bool) → r.holds ≡ b → (first rs ≡ n → stands rs m n ≡ true → holds_of rs m ≡ false) → holds_of (r ∷ rs) m ≡ false
    go true x ih =
        absurd (eqb-false r.number n (not_true_false _ (and_fst (not (eqb r.number n)) _ before)) (sym (first_here r rs x) ∙ e))
    go false x ih =
        cond_case (λ (b : Bool). b ≡ false) (eqb r.number m) r.holds (holds_of rs m) (λ _. x)
        (λ other. ih (sym (first_past r rs x) ∙ e) (or_other (eqb r.number m) (stands rs m n) other (and_snd (not (eqb r.number n)) _ before)))

-- ---- THE TABLE

pub table_numbered : (L : Ledger) (r : Read) → numbered (refusals L r) ≡ true
unfolding refusals_by entry_refusals envelope_refusals operation_refusals_by
table_numbered L r = refl

pub table_most : (L : Ledger) (r : Read) → at_most LAST_ANSWER (refusals L r) ≡ true
unfolding refusals_by entry_refusals envelope_refusals operation_refusals_by
table_most L r = refl

-- answered 0: the row of no number holds
pub passed : (L : Ledger) (r : Read) → answer_of L r ≡ 0 → (n : ℕ) → holds_of (refusals L r) n ≡ false
unfolding answer_by
passed L r e n = none_by_number (refusals L r) (none_of_zero (refusals L r) (table_numbered L r) e) n

-- where the tables and the record are right, the envelope and the operation give the answer
pub entry_pass : (L : Ledger) (r : Read) → first (entry_refusals L r) ≡ 0
    → answer_of L r ≡ first (envelope_refusals L r.submission ++ operation_refusals L r.submission)
unfolding answer_by refusals_by
entry_pass L r h = first_pass (entry_refusals L r) (envelope_refusals L r.submission ++ operation_refusals L r.submission) (unfold entry_refusals in refl) h
