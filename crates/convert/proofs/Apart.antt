-- No operation looks at the journal: on a ledger with another journal each answers the same word and leaves the same ledger, with that other
-- journal. A move computes to this. Where a test of the ledger chooses, the journal is taken out of both choices; a sweep goes turn by turn.
use mathlib.Core.Path.{◌≡◌, refl, ap, ◌∙◌}
use mathlib.Core.List.{List, [], ◌∷◌}
use mathlib.Core.Bool.{Bool, true, false, cond, ◌&&◌}
use Prim.Native.Nat.{ℕ, zero, suc, ◌+◌, ◌-◌}
use lib.ListN.{get_or}
use lib.Dec.{eqb, ltb}
use Rattle.rules.specs.Limits.{GRANTED, BALANCE, LOCKED, AUTO_ACCEPT, RECEIPT_LINK}
use Rattle.rules.specs.Ledger.{Ledger, head, receipt, escrow_count, receipt_count, has_wallet, set_journal}
use Rattle.rules.specs.Ledger.{put_head, put_wallet, put_escrow, put_receipt, new_wallet, new_escrow, new_receipt}
use Rattle.rules.specs.Refusals.{releasable}
use Rattle.rules.specs.Settle.{raise, lower, ensure_wallet, end_escrow, close_receipt, Done, done, accept_row, Sweep, one_more, due_receipt, due_escrow}
use Rattle.rules.specs.Settle.{close_due_receipt, close_due_escrow, sweep_receipt, sweep_escrow, sweep_start, swept_receipts, swept, escrow_of}
use Rattle.rules.specs.Settle.{grant, transfer, open_escrow, release, refund, claim, accept, dispute, sweep, freeze, caps, close, idle, operations_by, operate_by}
use Rattle.rules.specs.declared.Form.TheVariants.{Old}
use Rattle.rules.specs.declared.Submission.{Submission}
use Rattle.rules.proofs.InStep.{loops_keep}

-- what comes of both choices comes of the chosen one
chosen : {A B : Type 0} (f : A → B) (b : Bool) (x y : A) (u v : B) → u ≡ f x → v ≡ f y → cond b u v ≡ f (cond b x y)
chosen f true x y u v p q = p
chosen f false x y u v p q = q

module _ (j : List ℕ) where
  -- what is done, and a sweep under way, with the other journal
  abbrev pub with_journal : Done → Done
  with_journal d = done d.word (set_journal j d.after)

  abbrev swept_with : Sweep → Sweep
  swept_with s = record { room = s.room; closed = s.closed; tables = set_journal j s.tables }

  -- ---- moves

  ensure_apart : (id : ℕ) (K : Ledger) → ensure_wallet id (set_journal j K) ≡ set_journal j (ensure_wallet id K)
  unfolding ensure_wallet new_wallet put_head
  ensure_apart id K = chosen (set_journal j) (has_wallet K id) K _ _ _ refl refl

  end_apart : (state now signer i : ℕ) (K : Ledger) → end_escrow state now signer i (set_journal j K) ≡ set_journal j (end_escrow state now signer i K)
  unfolding end_escrow raise lower put_wallet put_escrow
  end_apart state now signer i K = refl

  close_apart : (state now signer i : ℕ) (K : Ledger) → close_receipt state now signer i (set_journal j K) ≡ set_journal j (close_receipt state now signer i K)
  unfolding close_receipt put_receipt
  close_apart state now signer i K = refl

  -- a receipt accepted: its escrow is released, or not
  accept_apart : (now signer i : ℕ) (K : Ledger) → accept_row now signer i (set_journal j K) ≡ with_journal (accept_row now signer i K)
  unfolding accept_row close_receipt put_receipt end_escrow raise lower put_wallet put_escrow
  accept_apart now signer i K =
      let k : ℕ = receipt K i RECEIPT_LINK in
      chosen with_journal (eqb k 0) _ _ _ _ refl (chosen with_journal (releasable K now (k - 1)) _ _ _ _ refl refl)

  -- ---- the sweep

  due_apart : (now i : ℕ) (K : Ledger) → close_due_receipt now i (set_journal j K) ≡ set_journal j (close_due_receipt now i K)
  unfolding close_due_receipt
  due_apart now i K =
      chosen (set_journal j) (eqb (receipt K i AUTO_ACCEPT) 1) _ _ _ _ (ap (λ (d : Done). d.after) (accept_apart now 0 i K)) (close_apart _ now 0 i K)

  -- a row is closed or left, by words of other tables than the journal
  turn_apart : (due : Bool) (s : Sweep) (K L : Ledger) → K ≡ set_journal j L → cond due (one_more s K) (swept_with s) ≡ swept_with (cond due (one_more s L) s)
  turn_apart due s K L e = chosen swept_with due (one_more s L) s _ _ (ap (one_more s) e) refl

  receipt_apart : (now i : ℕ) (s : Sweep) → sweep_receipt now i (swept_with s) ≡ swept_with (sweep_receipt now i s)
  unfolding sweep_receipt
  receipt_apart now i s = turn_apart (ltb 0 s.room && due_receipt s.tables now i) s _ _ (due_apart now i s.tables)

  escrow_apart : (now i : ℕ) (s : Sweep) → sweep_escrow now i (swept_with s) ≡ swept_with (sweep_escrow now i s)
  unfolding sweep_escrow close_due_escrow
  escrow_apart now i s = turn_apart (ltb 0 s.room && due_escrow s.tables now i) s _ _ (end_apart _ now 0 i s.tables)

  swept_apart : (now limit : ℕ) (K : Ledger) → swept now limit (set_journal j K) ≡ swept_with (swept now limit K)
  unfolding swept swept_receipts
  swept_apart now limit K =
      loops_keep Pair (escrow_count K) (sweep_escrow now) (sweep_escrow now) (λ i h s z e. ap (sweep_escrow now i) e ∙ escrow_apart now i z) _ _
      (loops_keep Pair (receipt_count K) (sweep_receipt now) (sweep_receipt now) (λ i h s z e. ap (sweep_receipt now i) e ∙ receipt_apart now i z) _
      (sweep_start limit K) refl)
    where
      Pair : Sweep → Sweep → Type 0
      Pair s z = s ≡ swept_with z

  -- ---- every operation

  abbrev Apart : (Submission → Ledger → Done) → Type 0
  Apart f = (s : Submission) (K : Ledger) → f s (set_journal j K) ≡ with_journal (f s K)

  -- a wallet that is missing is made first
  grant_apart : Apart grant
  unfolding grant raise put_wallet put_head
  grant_apart s K =
      ap (λ (M : Ledger). done 0 (put_head GRANTED (head K GRANTED + s.amount) (raise BALANCE s.target s.amount M))) (ensure_apart s.target K)

  transfer_apart : Apart transfer
  unfolding transfer raise lower put_wallet
  transfer_apart s K =
      ap (λ (M : Ledger). done 0 (raise BALANCE s.target s.amount (lower BALANCE s.signer s.amount M))) (ensure_apart s.target K)

  open_apart : Apart open_escrow
  unfolding open_escrow raise lower put_wallet new_escrow put_head
  open_apart s K =
      ap (λ (M : Ledger). done (escrow_count K + 1) (new_escrow (escrow_of s) (raise LOCKED s.signer s.amount (lower BALANCE s.signer s.amount M))))
      (ensure_apart s.target K)

  -- a release and a refund
  ending_apart : (state : ℕ) → Apart (λ s K. done 0 (end_escrow state s.now s.signer (s.target - 1) K))
  ending_apart state s K = ap (done 0) (end_apart state s.now s.signer (s.target - 1) K)

  claim_apart : Apart claim
  unfolding claim new_receipt put_head
  claim_apart s K = refl

  accepts_apart : Apart accept
  unfolding accept
  accepts_apart s K = accept_apart s.now s.signer (s.target - 1) K

  dispute_apart : Apart dispute
  unfolding dispute
  dispute_apart s K = ap (done 0) (close_apart _ s.now s.signer (s.target - 1) K)

  sweep_apart : Apart sweep
  unfolding sweep
  sweep_apart s K = ap (λ (z : Sweep). done z.closed z.tables) (swept_apart s.now s.amount K)

  freeze_apart : Apart freeze
  unfolding freeze put_head put_wallet
  freeze_apart s K = ap (done 0) (chosen (set_journal j) (eqb s.target 0) _ _ _ _ refl refl)

  caps_apart : Apart caps
  unfolding caps put_wallet
  caps_apart s K = refl

  shut_apart : Apart close
  unfolding close put_wallet
  shut_apart s K = refl

  -- each of a list of operations; so whichever of them it is, and past their end
  data Each : List (Submission → Ledger → Done) → Type 0 where
    none : Each []
    more : {f : Submission → Ledger → Done} {fs : List (Submission → Ledger → Done)} → Apart f → Each fs → Each (f ∷ fs)

  any_apart : {fs : List (Submission → Ledger → Done)} → Each fs → (n : ℕ) → Apart (get_or fs n idle)
  any_apart none n s K = refl
  any_apart (more a rest) zero s K = a s K
  any_apart (more a rest) (suc n) s K = any_apart rest n s K

  each_apart : Each (operations_by Old)
  unfolding release refund
  each_apart =
      more grant_apart (more transfer_apart (more open_apart (more (ending_apart _) (more (ending_apart _)
      (more claim_apart (more accepts_apart (more dispute_apart (more sweep_apart
      (more freeze_apart (more caps_apart (more shut_apart none)))))))))))

  pub operate_apart : (s : Submission) (K : Ledger) → operate_by Old s (set_journal j K) ≡ with_journal (operate_by Old s K)
  unfolding operate_by
  operate_apart s K = any_apart each_apart (s.op - 1) s K

-- so it leaves the journal as it was
pub keeps_journal : (s : Submission) (K : Ledger) → (operate_by Old s K).after.journal ≡ K.journal
keeps_journal s K = ap (λ (d : Done). d.after.journal) (operate_apart K.journal s K)
