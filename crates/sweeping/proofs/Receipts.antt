-- The loop over the receipts: so far the tables, the room and the count are those of the definition's loop. A ledger that was good is good
-- after each of its turns, so that the next receipt can be accepted.
use mathlib.Core.Path.{◌≡◌, refl, sym, ap, ◌∙◌, subst}
use mathlib.Core.Bool.{Bool}
use mathlib.Core.List.{List, []}
use Prim.Native.Nat.{ℕ, ◌+◌, ◌-◌, ◌<◌, ◌≤◌}
use native.Mathlib.Nat.{le_refl}
use native.Mathlib.Omega.{arith}
use lib.ListN.{length, get_or}
use Rattle.std.specs.Int.{from_bool}
use Rattle.rules.specs.Limits.{RECEIPTS}
use Rattle.rules.specs.Table.{loop}
use Rattle.rules.specs.Ledger.{Ledger, ledger_of}
use Rattle.rules.specs.declared.Edition.{Edition}
use Rattle.rules.specs.Settle.{Sweep, sweep_receipt, swept_receipts}
use Rattle.rules.proofs.Good.{Good}
use Rattle.rules.proofs.Stays.{Kept, receipts_swept}
use Rattle.rules.proofs.UpTo.{up_to_receipts}
use Rattle.rows.specs.Numbered.{Names}
use Rattle.moves.specs.Needs.{Accepts}
use Rattle.moves.proofs.Bounds.{accepts_of}
use Rattle.sweeping.specs.Needs.{under_way, Sweeping, Expiring}
use Rattle.sweeping.proofs.Turns.{loop_none, loop_next, loop_full, receipt_full, one_row}

-- after `number` receipts, of which `closed` were closed
pub record SoFar (ed : Edition) (h w₀ e₀ r₀ : List ℕ) (time limit closed number : ℕ) (w e r : List ℕ) : Type 0 where
  pub rows : number ≤ get_or h RECEIPTS 0
  pub room : closed ≤ limit
  pub wallets : length w ≡ length w₀
  pub escrows : length e ≡ length e₀
  pub receipts : length r ≡ length r₀
  pub far : (K : Ledger)
      → under_way (limit - closed) closed (up_to_receipts K ed h w e r) ≡ loop number (sweep_receipt time) (under_way limit 0 (up_to_receipts K ed h w₀ e₀ r₀))

pub start : (ed : Edition) (h w e r : List ℕ) (time limit : ℕ) → SoFar ed h w e r time limit 0 0 w e r
start ed h w e r time limit = record {
  rows = omega arith;
  room = omega arith;
  wallets = refl;
  escrows = refl;
  receipts = refl;
  far = λ K.
      let a : limit - 0 ≡ limit = omega arith in
      ap (λ (k : ℕ). under_way k 0 (up_to_receipts K ed h w e r)) a ∙ sym (loop_none (sweep_receipt time) (under_way limit 0 (up_to_receipts K ed h w e r)));
}

module _ (ed : Edition) (h w₀ e₀ r₀ : List ℕ) (time limit closed number : ℕ) (w e r : List ℕ) (far : SoFar ed h w₀ e₀ r₀ time limit closed number w e r) where
  pub next :
      (w₁ e₁ r₁ : List ℕ) (b : Bool) (x : ℕ)
      → number < get_or h RECEIPTS 0
      → closed < limit
      → length w₁ ≡ length w
      → length e₁ ≡ length e
      → length r₁ ≡ length r
      → x ≡ from_bool b
      → ((K : Ledger) (room count : ℕ) → 0 < room
      → under_way (room - from_bool b) (count + from_bool b) (up_to_receipts K ed h w₁ e₁ r₁) ≡ sweep_receipt time (number + 1 - 1) (under_way room count (up_to_receipts K ed h w e r)))
      → SoFar ed h w₀ e₀ r₀ time limit (closed + x) (number + 1) w₁ e₁ r₁
  next w₁ e₁ r₁ b x l m lw le lr one q = record {
    rows = omega arith;
    room = omega (arith, one_row b x one);
    wallets = lw ∙ far.wallets;
    escrows = le ∙ far.escrows;
    receipts = lr ∙ far.receipts;
    far = λ K.
        let a : limit - (closed + x) ≡ limit - closed - x = omega arith in
        let i : number + 1 - 1 ≡ number = omega arith in
        loop_next (sweep_receipt time) _ _ _ number (number + 1 - 1) (far.far K) i
        (ap (λ (k : ℕ). under_way k (closed + x) (up_to_receipts K ed h w₁ e₁ r₁)) a
        ∙ ap (λ (k : ℕ). under_way (limit - closed - k) (closed + k) (up_to_receipts K ed h w₁ e₁ r₁)) one
        ∙ q K (limit - closed) closed (omega arith));
  }

  -- the next receipt can be accepted
  good_so_far : Sweeping ed h w₀ e₀ r₀ time → Good (ledger_of ed h w e r [])
  good_so_far s =
      (subst (λ (t : Sweep). Kept (ledger_of ed h w₀ e₀ r₀ []) t.tables) (sym (far.far (ledger_of ed h w e r [])))
      (receipts_swept (ledger_of ed h w₀ e₀ r₀ []) time s.now s.good limit number far.rows)).good

  pub can_accept : Sweeping ed h w₀ e₀ r₀ time → number < get_or h RECEIPTS 0 → Names (number + 1) × Accepts ed h w e r time (number + 1 - 1)
  can_accept s l =
      let i : number + 1 - 1 ≡ number = omega arith in (
        record { low = omega arith; high = omega (arith, s.small.receipts) },
        subst (Accepts ed h w e r time) (sym i) (accepts_of ed s.len h w e r s.small (good_so_far s) time number l),
      )

  -- no receipt is left, or no room
  pub ended :
      get_or h RECEIPTS 0 ≤ number
      → (closed ≤ limit) × ((K : Ledger) → under_way (limit - closed) closed (up_to_receipts K ed h w e r) ≡ swept_receipts time limit (up_to_receipts K ed h w₀ e₀ r₀))
  unfolding swept_receipts
  ended l = (
    far.room,
    λ K.
        let n : number ≡ get_or h RECEIPTS 0 = omega (arith, far.rows) in
        far.far K ∙ ap (λ (k : ℕ). loop k (sweep_receipt time) (under_way limit 0 (up_to_receipts K ed h w₀ e₀ r₀))) n,
  )

  pub full :
      limit ≤ closed
      → (closed ≤ limit) × ((K : Ledger) → under_way (limit - closed) closed (up_to_receipts K ed h w e r) ≡ swept_receipts time limit (up_to_receipts K ed h w₀ e₀ r₀))
  unfolding swept_receipts
  full l = (
    far.room,
    λ K.
        let z : limit - closed ≡ 0 = omega arith in
        far.far K
        ∙ loop_full (sweep_receipt time) (receipt_full time) (under_way limit 0 (up_to_receipts K ed h w₀ e₀ r₀)) number (get_or h RECEIPTS 0)
        (sym (ap (λ (t : Sweep). t.room) (far.far K)) ∙ z) far.rows,
  )

-- after the receipts the ledger is good still
pub expiring :
    (ed : Edition) (h w e r w₁ e₁ r₁ : List ℕ) (time limit x : ℕ)
    → Sweeping ed h w e r time
    → ((K : Ledger) → under_way (limit - x) x (up_to_receipts K ed h w₁ e₁ r₁) ≡ swept_receipts time limit (up_to_receipts K ed h w e r))
    → Expiring ed h w₁ e₁ time
unfolding swept_receipts
expiring ed h w e r w₁ e₁ r₁ time limit x s q = record {
  receipts = r₁;
  sweeping = record {
    len = s.len;
    small = s.small;
    good = (subst (λ (t : Sweep). Kept (ledger_of ed h w e r []) t.tables) (sym (q (ledger_of ed h w e r [])))
        (receipts_swept (ledger_of ed h w e r []) time s.now s.good limit (get_or h RECEIPTS 0) (le_refl (get_or h RECEIPTS 0)))).good;
    now = s.now;
  };
}
