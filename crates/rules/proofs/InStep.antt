-- A sweep of the tables and a sweep of the book go in step: two loops each, turn by turn. Both sides test whether the same row is due by words
-- that agree, so no plan of the sweep has to be compared.
use mathlib.Core.Path.{◌≡◌, refl, sym, ap, ap₂, ◌∙◌, subst}
use mathlib.Core.Bool.{Bool, cond, ◌&&◌}
use Prim.Native.Nat.{ℕ, zero, suc, ◌-◌, ◌≤◌, ◌<◌}
use native.Mathlib.Omega.{arith}
use lib.Dec.{eqb, ltb}
use Rattle.rules.specs.Limits.{LAST_TIME_MS, ESCROWS, RECEIPTS, ESCROW_STATE, AUTO_ACCEPT, IS_OPEN}
use Rattle.rules.specs.Table.{loop}
use Rattle.rules.specs.Ledger.{Ledger, escrow, receipt, escrow_count, receipt_count}
use Rattle.rules.specs.Settle.{Sweep, due_receipt, due_escrow, close_due_receipt, close_due_escrow, sweep_receipt, sweep_escrow, sweep_start, swept_receipts, swept}
use Rattle.rules.specs.History.{Book, Sweeping, closes, tries, sweep_note, sweep_deal, sweeps}
use Rattle.rules.proofs.Bools.{and_fst, and_snd}
use Rattle.rules.proofs.Good.{Good}
use Rattle.rules.proofs.Stays.{Kept, kept_start, row_kept, receipt_turn, escrow_turn}
use Rattle.rules.proofs.Agree.{Fits, cond_rel, fits_end, fits_close, fits_accept}

-- as many rows may still be closed, and tables and book agree
pub record InStep (s : Sweep) (z : Sweeping) : Type 0 where
  pub room : s.room ≡ z.room
  pub fits : Fits s.tables z.book

-- and the tables are good still
pub record Along (L : Ledger) (s : Sweep) (z : Sweeping) : Type 0 where
  pub kept : Kept L s.tables
  pub step : InStep s z

-- what one turn of two loops keeps, the loops keep
pub loops_keep {κ} : {S Z : Type 0} (P : S → Z → Type κ) (n : ℕ) (f : ℕ → S → S) (g : ℕ → Z → Z)
    → ((i : ℕ) → i < n → (s : S) (z : Z) → P s z → P (f i s) (g i z)) → (s : S) (z : Z) → P s z → P (loop n f s) (loop n g z)
unfolding loop
loops_keep P zero f g h s z a = a
loops_keep P (suc n) f g h s z a = h n (omega arith) (loop n f s) (loop n g z) (loops_keep P n f g (λ i l. h i (omega arith)) s z a)

module _ (L : Ledger) (now : ℕ) (now_right : now ≤ LAST_TIME_MS) where
  fits_due_receipt : (K : Ledger) (B : Book) → Good K → Fits K B → (i : ℕ) → i < receipt_count K
      → Fits (close_due_receipt now i K) (cond (eqb (B.note i).auto 1) (tries (B.note i).link now i B) (closes i B))
  unfolding close_due_receipt
  fits_due_receipt K B g f i i< =
      cond_rel Fits (eqb (receipt K i AUTO_ACCEPT) 1) (eqb (B.note i).auto 1) _ _ _ _
      (ap (λ (x : ℕ). eqb x 1) (f.recs.auto i i<)) (λ h. (fits_accept K B g f i i< _ _ (omega arith)).fits)
      (λ h. fits_close K B g f i i< _ _ _ refl)

  along_receipt : (i : ℕ) → i < receipt_count L → (s : Sweep) (z : Sweeping) → Along L s z → Along L (sweep_receipt now i s) (sweep_note now i z)
  along_receipt i i< s z a =
      let K : Ledger = s.tables in
      let F : Fits K z.book = a.step.fits in
      let j< : i < receipt_count K = row_kept RECEIPTS a.kept i< in
      record {
        kept = receipt_turn L now now_right i i< s a.kept;
        step =
            unfold sweep_receipt sweep_note in
            cond_rel InStep (ltb 0 s.room && due_receipt K now i) (ltb 0 z.room && (z.book.pending i && ltb (z.book.note i).until now)) _ s _ z
            (ap₂ ◌&&◌ (ap (ltb 0) a.step.room) (ap₂ (λ (x : Bool) (u : ℕ). x && ltb u now) (F.recs.pending i j<) (F.recs.until i j<)))
            (λ e. record { room = ap (λ (x : ℕ). x - 1) a.step.room; fits = fits_due_receipt K z.book a.kept.good F i j< }) (λ e. a.step);
      }

  along_escrow : (i : ℕ) → i < escrow_count L → (s : Sweep) (z : Sweeping) → Along L s z → Along L (sweep_escrow now i s) (sweep_deal now i z)
  along_escrow i i< s z a =
      let K : Ledger = s.tables in
      let F : Fits K z.book = a.step.fits in
      let j< : i < escrow_count K = row_kept ESCROWS a.kept i< in
      record {
        kept = escrow_turn L now now_right i i< s a.kept;
        step =
            unfold sweep_escrow sweep_deal close_due_escrow in
            cond_rel InStep (ltb 0 s.room && due_escrow K now i) (ltb 0 z.room && (z.book.live i && ltb (z.book.deal i).until now)) _ s _ z
            (ap₂ ◌&&◌ (ap (ltb 0) a.step.room) (ap₂ (λ (x : Bool) (u : ℕ). x && ltb u now) (F.escs.live i j<) (F.escs.until i j<)))
            (λ e. record {
              room = ap (λ (x : ℕ). x - 1) a.step.room;
              fits =
                  fits_end K z.book a.kept.good F i j<
                  (sym (F.escs.live i j<) ∙ and_fst (eqb (escrow K i ESCROW_STATE) IS_OPEN) _ (and_snd (ltb 0 s.room) _ e)) _ _ _ refl;
            })
            (λ e. a.step);
      }

  pub fits_sweep : (B : Book) → Good L → Fits L B → (limit : ℕ) → Fits (swept now limit L).tables (sweeps now limit B)
  unfolding swept swept_receipts sweeps
  fits_sweep B g f limit =
      let z : Sweeping = record { room = limit; book = B } in
      subst (λ (k : ℕ). Fits (swept now limit L).tables (loop k (sweep_deal now) (loop B.claims (sweep_note now) z)).book) f.escs.count
      (subst (λ (k : ℕ). Fits (swept now limit L).tables (loop (escrow_count L) (sweep_deal now) (loop k (sweep_note now) z)).book) f.recs.count
      (loops_keep (Along L) (escrow_count L) (sweep_escrow now) (sweep_deal now) along_escrow _ _
      (loops_keep (Along L) (receipt_count L) (sweep_receipt now) (sweep_note now) along_receipt (sweep_start limit L) z
      (record { kept = kept_start L g; step = record { room = refl; fits = f } }))).step.fits)
