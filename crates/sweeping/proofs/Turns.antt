-- One turn of a sweep, and a loop of turns: a row that is due is closed and counted, any other is passed over; once there is no room, what
-- is left of the loop changes nothing, so the code may stop there.
use mathlib.Core.Path.{◌≡◌, refl, sym, ap, ◌∙◌}
use mathlib.Core.List.{List}
use mathlib.Core.Bool.{Bool, true, false, ◌&&◌}
use Prim.Native.Nat.{ℕ, zero, suc, ◌+◌, ◌-◌, ◌<◌, ◌≤◌}
use native.Mathlib.Decide.{ℕ_discrete}
use native.Mathlib.Numerals.{add-one}
use native.Mathlib.Omega.{arith}
use lib.Dec.{eqb, ltb}
use borrow.Author.Tests.{eq-eqb, ne_eqb, lt-ltb}
use Rattle.std.specs.Int.{from_bool}
use Rattle.rules.specs.Limits.{RECEIPT_LEN, AUTO_ACCEPT, LAPSED, RECEIPT_STATE, ACCEPTANCE_DEADLINE, PENDING, ESCROW_STATE, ESCROW_DEADLINE, IS_OPEN, EXPIRED}
use Rattle.rules.specs.Table.{word, loop}
use Rattle.rules.specs.Ledger.{Ledger, set_receipts}
use Rattle.rules.specs.declared.Edition.{Edition}
use Rattle.rules.specs.Settle.{Sweep, done, Done, accept_row, close_receipt, end_escrow, due_receipt, due_escrow, close_due_receipt, close_due_escrow, sweep_receipt, sweep_escrow}
use Rattle.rules.proofs.Turns.{turn}
use Rattle.rules.proofs.UpTo.{up_to_escrows, up_to_receipts}
use Rattle.sweeping.specs.Needs.{under_way}

-- a due receipt is accepted, or expires
pub due_accepted :
    (ed : Edition) (h w e r w₁ e₁ r₁ : List ℕ) (time i auto x : ℕ)
    → auto ≡ word r RECEIPT_LEN i AUTO_ACCEPT
    → auto ≡ 1
    → ((K : Ledger) → done x (up_to_receipts K ed h w₁ e₁ r₁) ≡ accept_row time 0 i (up_to_receipts K ed h w e r))
    → (K : Ledger)
    → up_to_receipts K ed h w₁ e₁ r₁ ≡ close_due_receipt time i (up_to_receipts K ed h w e r)
unfolding close_due_receipt
due_accepted ed h w e r w₁ e₁ r₁ time i auto x a z q K = rw (eq-eqb _ _ (sym a ∙ z)) (ap (λ (d : Done). d.after) (q K))

pub due_lapsed :
    (ed : Edition) (h w e r r₁ : List ℕ) (time i auto : ℕ)
    → auto ≡ word r RECEIPT_LEN i AUTO_ACCEPT
    → (auto ≡ 1 → ⊥)
    → ((K : Ledger) → set_receipts r₁ K ≡ close_receipt LAPSED time 0 i (set_receipts r K))
    → (K : Ledger)
    → up_to_receipts K ed h w e r₁ ≡ close_due_receipt time i (up_to_receipts K ed h w e r)
unfolding close_due_receipt
due_lapsed ed h w e r r₁ time i auto a z q K = rw (ne_eqb _ _ (λ (y : word r RECEIPT_LEN i AUTO_ACCEPT ≡ 1). z (a ∙ y))) (q (up_to_receipts K ed h w e r))

-- whatever is due and however it is closed
turned : (due : Ledger → ℕ → Bool) (close : ℕ → Ledger → Ledger) (L K : Ledger) (i room closed : ℕ) (b : Bool)
    → b ≡ true → due L i ≡ true → K ≡ close i L → 0 < room
    → under_way (room - from_bool b) (closed + from_bool b) K ≡ turn due close i (under_way room closed L)
turned due close L K i room closed b t d k l = rw (t, lt-ltb 0 room l, d, k)

passed_over : (due : Ledger → ℕ → Bool) (close : ℕ → Ledger → Ledger) (L : Ledger) (i room closed : ℕ) (b : Bool)
    → b ≡ false → due L i ≡ false → 0 < room
    → under_way (room - from_bool b) (closed + from_bool b) L ≡ turn due close i (under_way room closed L)
passed_over due close L i room closed b t d l =
    let r : room - 0 ≡ room = omega arith in
    let c : closed + 0 ≡ closed = omega arith in
    rw (t, lt-ltb 0 room l, d, r, c)

-- a turn closes one row or none
pub one_row : (b : Bool) (x : ℕ) → x ≡ from_bool b → x ≤ 1
one_row true x e = omega arith
one_row false x e = omega arith

module _ (ed : Edition) (h w e r : List ℕ) (time i state deadline : ℕ) (b : Bool)
    (p : state ≡ word r RECEIPT_LEN i RECEIPT_STATE) (d : deadline ≡ word r RECEIPT_LEN i ACCEPTANCE_DEADLINE)
    (x : b ≡ (eqb state PENDING && ltb deadline time)) where
  receipt_test : b ≡ (eqb (word r RECEIPT_LEN i RECEIPT_STATE) PENDING && ltb (word r RECEIPT_LEN i ACCEPTANCE_DEADLINE) time)
  receipt_test = rw (← p, ← d) x

  pub receipt_closed :
      (w₁ e₁ r₁ : List ℕ)
      → b ≡ true
      → ((K : Ledger) → up_to_receipts K ed h w₁ e₁ r₁ ≡ close_due_receipt time i (up_to_receipts K ed h w e r))
      → (K : Ledger) (room closed : ℕ) → 0 < room
      → under_way (room - from_bool b) (closed + from_bool b) (up_to_receipts K ed h w₁ e₁ r₁) ≡ sweep_receipt time i (under_way room closed (up_to_receipts K ed h w e r))
  unfolding sweep_receipt
  receipt_closed w₁ e₁ r₁ t q K room closed l =
      turned (λ L k. due_receipt L time k) (close_due_receipt time) (up_to_receipts K ed h w e r) (up_to_receipts K ed h w₁ e₁ r₁) i room closed b t (sym receipt_test ∙ t) (q K) l

  pub receipt_passed :
      b ≡ false → (K : Ledger) (room closed : ℕ) → 0 < room
      → under_way (room - from_bool b) (closed + from_bool b) (up_to_receipts K ed h w e r) ≡ sweep_receipt time i (under_way room closed (up_to_receipts K ed h w e r))
  unfolding sweep_receipt
  receipt_passed t K room closed l =
      passed_over (λ L k. due_receipt L time k) (close_due_receipt time) (up_to_receipts K ed h w e r) i room closed b t (sym receipt_test ∙ t) l

module _ (ed : Edition) (h w e : List ℕ) (time i state deadline : ℕ) (b : Bool)
    (p : state ≡ word e ed.escrow i ESCROW_STATE) (d : deadline ≡ word e ed.escrow i ESCROW_DEADLINE)
    (x : b ≡ (eqb state IS_OPEN && ltb deadline time)) where
  escrow_test : b ≡ (eqb (word e ed.escrow i ESCROW_STATE) IS_OPEN && ltb (word e ed.escrow i ESCROW_DEADLINE) time)
  escrow_test = rw (← p, ← d) x

  pub escrow_closed :
      (w₁ e₁ : List ℕ)
      → b ≡ true
      → ((K : Ledger) → up_to_escrows K ed h w₁ e₁ ≡ end_escrow EXPIRED time 0 i (up_to_escrows K ed h w e))
      → (K : Ledger) (room closed : ℕ) → 0 < room
      → under_way (room - from_bool b) (closed + from_bool b) (up_to_escrows K ed h w₁ e₁) ≡ sweep_escrow time i (under_way room closed (up_to_escrows K ed h w e))
  unfolding sweep_escrow close_due_escrow
  escrow_closed w₁ e₁ t q K room closed l =
      turned (λ L k. due_escrow L time k) (end_escrow EXPIRED time 0) (up_to_escrows K ed h w e) (up_to_escrows K ed h w₁ e₁) i room closed b t (sym escrow_test ∙ t) (q K) l

  pub escrow_passed :
      b ≡ false → (K : Ledger) (room closed : ℕ) → 0 < room
      → under_way (room - from_bool b) (closed + from_bool b) (up_to_escrows K ed h w e) ≡ sweep_escrow time i (under_way room closed (up_to_escrows K ed h w e))
  unfolding sweep_escrow
  escrow_passed t K room closed l =
      passed_over (λ L k. due_escrow L time k) (close_due_escrow time) (up_to_escrows K ed h w e) i room closed b t (sym escrow_test ∙ t) l

-- ---- a loop of turns

pub loop_none : (f : ℕ → Sweep → Sweep) (s : Sweep) → loop 0 f s ≡ s
unfolding loop
loop_none f s = refl

pub loop_next : (f : ℕ → Sweep → Sweep) (s t u : Sweep) (n i : ℕ) → t ≡ loop n f s → i ≡ n → u ≡ f i t → u ≡ loop (n + 1) f s
unfolding loop
loop_next f s t u n i a b c = rw (add-one n) (c ∙ ap (λ (k : ℕ). f k t) b ∙ ap (f n) a)

-- a turn without room
pub receipt_full : (time i : ℕ) (s : Sweep) → s.room ≡ 0 → sweep_receipt time i s ≡ s
unfolding sweep_receipt
receipt_full time i s z = rw z

pub escrow_full : (time i : ℕ) (s : Sweep) → s.room ≡ 0 → sweep_escrow time i s ≡ s
unfolding sweep_escrow
escrow_full time i s z = rw z

pub loop_full :
    (f : ℕ → Sweep → Sweep) → ((i : ℕ) (s : Sweep) → s.room ≡ 0 → f i s ≡ s)
    → (s : Sweep) (n m : ℕ) → (loop n f s).room ≡ 0 → n ≤ m → loop n f s ≡ loop m f s
unfolding loop
loop_full f stays s n zero z l = let e : n ≡ 0 = omega arith in ap (λ (k : ℕ). loop k f s) e
loop_full f stays s n (suc m) z l = go (ℕ_discrete n (suc m)) (loop_full f stays s n m z)
  where
    go : Dec (n ≡ suc m) → (n ≤ m → loop n f s ≡ loop m f s) → loop n f s ≡ f m (loop m f s)
    go (yes e) ih = ap (λ (k : ℕ). loop k f s) e
    go (no e) ih =
        let p = ih (omega (arith, e)) in
        p ∙ sym (stays m (loop m f s) (sym (ap (λ (t : Sweep). t.room) p) ∙ z))
