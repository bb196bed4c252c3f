-- The loop over the escrows, as that over the receipts, and the whole sweep.
use mathlib.Core.Path.{◌≡◌, refl, sym, ap, ap₂, ◌∙◌, subst}
use mathlib.Core.Bool.{Bool}
use mathlib.Core.List.{List, []}
use Prim.Native.Nat.{ℕ, ◌+◌, ◌-◌, ◌<◌, ◌≤◌, min}
use native.Mathlib.Omega.{arith}
use lib.ListN.{length, get_or}
use Rattle.std.specs.Int.{from_bool}
use Rattle.rules.specs.Limits.{ESCROWS}
use Rattle.rules.specs.Table.{loop}
use Rattle.rules.specs.Ledger.{Ledger, ledger_of}
use Rattle.rules.specs.declared.Edition.{Edition}
use Rattle.rules.specs.Settle.{Sweep, sweep_escrow, swept_receipts, swept, done}
use Rattle.rules.specs.Due.{due}
use Rattle.rules.proofs.Good.{Good}
use Rattle.rules.proofs.Stays.{Kept, kept_start, escrow_turn, loop_keeps}
use Rattle.rules.proofs.SweepPlan.{sweep_counts}
use Rattle.rules.proofs.UpTo.{up_to_escrows, up_to_receipts}
use Rattle.rows.specs.Numbered.{Names}
use Rattle.moves.proofs.Bounds.{ends_of}
use Rattle.sweeping.specs.Needs.{under_way, Expires, Expiring}
use Rattle.sweeping.proofs.Turns.{loop_none, loop_next, loop_full, escrow_full, one_row}

-- after `number` escrows, of which `closed` were closed, behind any count of receipts
pub record SoFar (ed : Edition) (h w₀ e₀ : List ℕ) (time limit closed number : ℕ) (w e : List ℕ) : Type 0 where
  pub rows : number ≤ get_or h ESCROWS 0
  pub room : closed ≤ limit
  pub wallets : length w ≡ length w₀
  pub escrows : length e ≡ length e₀
  pub far : (K : Ledger) (count : ℕ)
      → under_way (limit - closed) (count + closed) (up_to_escrows K ed h w e) ≡ loop number (sweep_escrow time) (under_way limit count (up_to_escrows K ed h w₀ e₀))

pub start : (ed : Edition) (h w e : List ℕ) (time limit : ℕ) → SoFar ed h w e time limit 0 0 w e
start ed h w e time limit = record {
  rows = omega arith;
  room = omega arith;
  wallets = refl;
  escrows = refl;
  far = λ K count.
      let a : limit - 0 ≡ limit = omega arith in
      let b : count + 0 ≡ count = omega arith in
      ap₂ (λ (k n : ℕ). under_way k n (up_to_escrows K ed h w e)) a b ∙ sym (loop_none (sweep_escrow time) (under_way limit count (up_to_escrows K ed h w e)));
}

module _ (ed : Edition) (h w₀ e₀ : List ℕ) (time limit closed number : ℕ) (w e : List ℕ) (far : SoFar ed h w₀ e₀ time limit closed number w e) where
  pub next :
      (w₁ e₁ : List ℕ) (b : Bool) (x : ℕ)
      → number < get_or h ESCROWS 0
      → closed < limit
      → length w₁ ≡ length w
      → length e₁ ≡ length e
      → x ≡ from_bool b
      → ((K : Ledger) (room count : ℕ) → 0 < room
      → under_way (room - from_bool b) (count + from_bool b) (up_to_escrows K ed h w₁ e₁) ≡ sweep_escrow time (number + 1 - 1) (under_way room count (up_to_escrows K ed h w e)))
      → SoFar ed h w₀ e₀ time limit (closed + x) (number + 1) w₁ e₁
  next w₁ e₁ b x l m lw le one q = record {
    rows = omega arith;
    room = omega (arith, one_row b x one);
    wallets = lw ∙ far.wallets;
    escrows = le ∙ far.escrows;
    far = λ K count.
        let a : limit - (closed + x) ≡ limit - closed - x = omega arith in
        let c : count + (closed + x) ≡ count + closed + x = omega arith in
        let i : number + 1 - 1 ≡ number = omega arith in
        loop_next (sweep_escrow time) _ _ _ number (number + 1 - 1) (far.far K count) i
        (ap₂ (λ (k n : ℕ). under_way k n (up_to_escrows K ed h w₁ e₁)) a c
        ∙ ap (λ (k : ℕ). under_way (limit - closed - k) (count + closed + k) (up_to_escrows K ed h w₁ e₁)) one
        ∙ q K (limit - closed) (count + closed) (omega arith));
  }

  -- the next escrow can end if it is open
  good_so_far : (x : Expiring ed h w₀ e₀ time) → Good (ledger_of ed h w e x.receipts [])
  good_so_far x =
      let L = ledger_of ed h w₀ e₀ x.receipts [] in
      (subst (λ (t : Sweep). Kept L t.tables) (sym (far.far L 0))
      (loop_keeps (λ (t : Sweep). Kept L t.tables) number (sweep_escrow time)
      (λ i l. escrow_turn L time x.sweeping.now i (omega (arith, far.rows))) (under_way limit 0 L) (kept_start L x.sweeping.good))).good

  pub can_expire : Expiring ed h w₀ e₀ time → number < get_or h ESCROWS 0 → Names (number + 1) × Expires ed h w e (number + 1 - 1)
  can_expire x l =
      let i : number + 1 - 1 ≡ number = omega arith in (
        record { low = omega arith; high = omega (arith, x.sweeping.small.escrows) },
        subst (Expires ed h w e) (sym i) (record {
          len = x.sweeping.len;
          ends = ends_of ed x.sweeping.len h w e x.receipts x.sweeping.small (good_so_far x) number l;
        }),
      )

  -- no room is left
  pub full :
      limit ≤ closed
      → (closed ≤ limit) × ((K : Ledger) (count : ℕ) → under_way (limit - closed) (count + closed) (up_to_escrows K ed h w e)
      ≡ loop (get_or h ESCROWS 0) (sweep_escrow time) (under_way limit count (up_to_escrows K ed h w₀ e₀)))
  full l = (
    far.room,
    λ K count.
        let z : limit - closed ≡ 0 = omega arith in
        far.far K count
        ∙ loop_full (sweep_escrow time) (escrow_full time) (under_way limit count (up_to_escrows K ed h w₀ e₀)) number (get_or h ESCROWS 0)
        (sym (ap (λ (t : Sweep). t.room) (far.far K count)) ∙ z) far.rows,
  )

-- THE SWEEP: both loops, and the word is what both have closed, the smaller of the limit and the rows that were due
pub swept_by :
    (ed : Edition) (h w e r w₁ e₁ r₁ w₂ e₂ : List ℕ) (time limit a b : ℕ)
    → 8 ≤ ed.escrow
    → ((K : Ledger) → under_way (limit - a) a (up_to_receipts K ed h w₁ e₁ r₁) ≡ swept_receipts time limit (up_to_receipts K ed h w e r))
    → ((K : Ledger) (count : ℕ) → under_way (limit - a - b) (count + b) (up_to_escrows K ed h w₂ e₂)
    ≡ loop (get_or h ESCROWS 0) (sweep_escrow time) (under_way (limit - a) count (up_to_escrows K ed h w₁ e₁)))
    → (K : Ledger)
    → (done (a + b) (up_to_receipts K ed h w₂ e₂ r₁) ≡ done (swept time limit (up_to_receipts K ed h w e r)).closed (swept time limit (up_to_receipts K ed h w e r)).tables)
    × (a + b ≡ min limit (due (up_to_receipts K ed h w e r) time))
unfolding swept
swept_by ed h w e r w₁ e₁ r₁ w₂ e₂ time limit a b wide p q K =
    let both : under_way (limit - a - b) (a + b) (up_to_receipts K ed h w₂ e₂ r₁) ≡ swept time limit (up_to_receipts K ed h w e r) =
    q (up_to_receipts K ed h w e r₁) a ∙ ap (loop (get_or h ESCROWS 0) (sweep_escrow time)) (p K) in (
      ap (λ (t : Sweep). done t.closed t.tables) both,
      ap (λ (t : Sweep). t.closed) both ∙ sweep_counts time limit (up_to_receipts K ed h w e r) wide,
    )
