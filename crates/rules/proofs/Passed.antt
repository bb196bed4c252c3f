-- What a settled submission has passed, by operation: each fact is a refusal that did not hold, asked by its number. A fact about operations
-- 1 to 3, say, takes `ap (one_of (GRANT ∷ TRANSFER ∷ OPEN ∷ [])) e` for the operation's equation e.
use mathlib.Core.Path.{◌≡◌, ap, subst}
use mathlib.Core.Logic.{◌≢◌}
use mathlib.Core.List.{[], ◌∷◌}
use mathlib.Core.Bool.{Bool, true, false, not, ◌&&◌, ◌||◌}
use Prim.Native.Nat.{ℕ, ◌+◌, ◌-◌, ◌≤◌, ◌<◌}
use native.Mathlib.Omega.{arith}
use lib.Dec.{eqb, leb}
use borrow.Author.Tests.{eqb-true, eqb-false, ne_eqb, ltb-true, ltb-false, leb-true, leb-false}
use Rattle.rules.specs.Limits.{WALLET_LEN, RECEIPT_LEN, MAX_AMOUNT_MICRO, MAX_GRANTED_MICRO, MAX_SWEEP_ROWS, GRANTED, BALANCE, FROM, TO, ESCROW_STATE, ESCROW_DEADLINE, IS_OPEN}
use Rattle.rules.specs.Limits.{ACCEPTANCE_DEADLINE, RECEIPT_STATE, PENDING}
use Rattle.rules.specs.Limits.{GRANT, TRANSFER, OPEN, CLAIM, SWEEP, FREEZE, CAPS, CLOSE}
use Rattle.rules.specs.Table.{rows_in}
use Rattle.rules.specs.Ledger.{Ledger, head, escrow, receipt, wallet_count, escrow_count, receipt_count, wallet_row, has_wallet, wallet_of, written}
use Rattle.rules.specs.Wallets.{is_closed}
use Rattle.rules.specs.Sound.{between}
use Rattle.rules.specs.Refusals.{refusals_by, entry_refusals, envelope_refusals, operation_refusals_by, one_of, on, paying, closing, signs, targets, replying, not_empty, of_escrow, releasable}
use Rattle.rules.specs.Submit.{answer_of}
use Rattle.rules.specs.declared.Submission.{Submission}
use Rattle.rules.specs.declared.Read.{Read}
use Rattle.rules.proofs.Bools.{and_fst, and_snd, or_none_fst, or_none_snd, not_false_true}
use Rattle.rules.proofs.Tests.{written_low, written_high}
use Rattle.rules.proofs.Refused.{passed}
use Rattle.rules.proofs.Calls.{for_op}

-- a condition that says that its row is there, where it is
pub there : (a x : Bool) → a ≡ true → a && x ≡ false → x ≡ false
there a x t h = subst (λ (b : Bool). b && x ≡ false) t h

-- a number that names one of n written rows is the number after one of them
pub written_row : (n k : ℕ) → written n k ≡ true → k - 1 < n
written_row n k h = omega (arith, written_low n k h, written_high n k h)

module _ (L : Ledger) (r : Read) (z : answer_of L r ≡ 0) where
  abbrev s : Submission
  s = r.submission

  -- 12
  pub amount_right : one_of (GRANT ∷ TRANSFER ∷ OPEN ∷ []) s.op ≡ true → between 1 MAX_AMOUNT_MICRO s.amount ≡ true
  unfolding refusals_by entry_refusals envelope_refusals operation_refusals_by
  amount_right t = not_false_true _ (for_op s (GRANT ∷ TRANSFER ∷ OPEN ∷ []) (not (between 1 MAX_AMOUNT_MICRO s.amount)) t (or_none_fst _ _ (passed L r z 12)))

  pub amount_low : one_of (GRANT ∷ TRANSFER ∷ OPEN ∷ []) s.op ≡ true → 1 ≤ s.amount
  amount_low t = leb-true 1 s.amount (and_fst (leb 1 s.amount) _ (amount_right t))

  pub amount_high : one_of (GRANT ∷ TRANSFER ∷ OPEN ∷ []) s.op ≡ true → s.amount ≤ MAX_AMOUNT_MICRO
  amount_high t = leb-true s.amount MAX_AMOUNT_MICRO (and_snd (leb 1 s.amount) _ (amount_right t))

  pub limit_high : one_of (SWEEP ∷ []) s.op ≡ true → s.amount ≤ MAX_SWEEP_ROWS
  unfolding refusals_by entry_refusals envelope_refusals operation_refusals_by
  limit_high t =
      let h = or_none_fst _ _ (or_none_snd (on s (GRANT ∷ TRANSFER ∷ OPEN ∷ []) (not (between 1 MAX_AMOUNT_MICRO s.amount))) _ (passed L r z 12)) in
      leb-true s.amount MAX_SWEEP_ROWS (and_snd (leb 1 s.amount) _ (not_false_true _ (for_op s (SWEEP ∷ []) (not (between 1 MAX_SWEEP_ROWS s.amount)) t h)))

  -- 13, 17
  pub sender_row : one_of paying s.op ≡ true → wallet_row L s.signer < wallet_count L
  unfolding refusals_by entry_refusals envelope_refusals operation_refusals_by
  sender_row t = ltb-true _ _ (not_false_true _ (for_op s paying (not (has_wallet L s.signer)) t (passed L r z 13)))

  pub sender_has : one_of paying s.op ≡ true → s.amount ≤ wallet_of L s.signer BALANCE
  unfolding refusals_by entry_refusals envelope_refusals operation_refusals_by
  sender_has t =
      let h13 = not_false_true _ (for_op s paying (not (has_wallet L s.signer)) t (passed L r z 13)) in
      ltb-false _ _ (there (has_wallet L s.signer) _ h13 (for_op s paying _ t (passed L r z 17)))

  -- 15
  pub target_some : one_of (GRANT ∷ TRANSFER ∷ OPEN ∷ CLAIM ∷ []) s.op ≡ true → s.target ≢ 0
  unfolding refusals_by entry_refusals envelope_refusals operation_refusals_by
  target_some t = eqb-false s.target 0 (for_op s (GRANT ∷ TRANSFER ∷ OPEN ∷ CLAIM ∷ []) (eqb s.target 0) t (or_none_fst _ _ (passed L r z 15)))

  pub target_other : one_of (TRANSFER ∷ OPEN ∷ CLAIM ∷ []) s.op ≡ true → s.target ≢ s.signer
  unfolding refusals_by entry_refusals envelope_refusals operation_refusals_by
  target_other t =
      eqb-false s.target s.signer (for_op s (TRANSFER ∷ OPEN ∷ CLAIM ∷ []) (eqb s.target s.signer) t
      (or_none_snd (on s (GRANT ∷ TRANSFER ∷ OPEN ∷ CLAIM ∷ []) (eqb s.target 0)) _ (passed L r z 15)))

  -- 16
  pub target_row : one_of (CAPS ∷ CLOSE ∷ []) s.op ≡ true → wallet_row L s.target < wallet_count L
  unfolding refusals_by entry_refusals envelope_refusals operation_refusals_by
  target_row t =
      ltb-true _ _ (not_false_true _ (for_op s (CAPS ∷ CLOSE ∷ []) (not (has_wallet L s.target)) t
      (or_none_snd (on s (FREEZE ∷ []) (not (eqb s.target 0) && not (has_wallet L s.target))) _ (passed L r z 16))))

  pub frozen_row : one_of (FREEZE ∷ []) s.op ≡ true → s.target ≢ 0 → wallet_row L s.target < wallet_count L
  unfolding refusals_by entry_refusals envelope_refusals operation_refusals_by
  frozen_row t ne =
      ltb-true _ _ (not_false_true _ (there (not (eqb s.target 0)) (not (has_wallet L s.target)) (ap not (ne_eqb s.target 0 ne))
      (for_op s (FREEZE ∷ []) _ t (or_none_fst _ _ (passed L r z 16)))))

  -- 43, 42
  pub signer_live : one_of signs s.op ≡ true → is_closed L s.signer ≡ false
  unfolding refusals_by entry_refusals envelope_refusals operation_refusals_by
  signer_live t = for_op s signs (is_closed L s.signer) t (or_none_fst _ _ (passed L r z 43))

  pub target_live : one_of targets s.op ≡ true → is_closed L s.target ≡ false
  unfolding refusals_by entry_refusals envelope_refusals operation_refusals_by
  target_live t = for_op s targets (is_closed L s.target) t (or_none_snd (on s signs (is_closed L s.signer)) _ (passed L r z 43))

  pub target_empty : one_of (CLOSE ∷ []) s.op ≡ true → not_empty L s.target ≡ false
  unfolding refusals_by entry_refusals envelope_refusals operation_refusals_by
  target_empty t = for_op s (CLOSE ∷ []) (not_empty L s.target) t (passed L r z 42)

  -- 27, 29
  pub escrow_written : one_of closing s.op ≡ true → written (escrow_count L) s.target ≡ true
  unfolding refusals_by entry_refusals envelope_refusals operation_refusals_by
  escrow_written t = not_false_true _ (for_op s closing (not (written (escrow_count L) s.target)) t (or_none_fst _ _ (passed L r z 27)))

  pub escrow_row : one_of closing s.op ≡ true → s.target - 1 < escrow_count L
  escrow_row t = written_row (escrow_count L) s.target (escrow_written t)

  pub escrow_open : one_of closing s.op ≡ true → eqb (escrow L (s.target - 1) ESCROW_STATE) IS_OPEN ≡ true
  unfolding refusals_by entry_refusals envelope_refusals operation_refusals_by
  escrow_open t =
      let h = for_op s closing (of_escrow L s.target (not (releasable L s.now (s.target - 1)))) t (or_none_fst _ _ (passed L r z 29)) in
      and_fst _ (leb s.now (escrow L (s.target - 1) ESCROW_DEADLINE)) (not_false_true _ (there (written (escrow_count L) s.target) _ (escrow_written t) h))

  -- a claim's link: 27, 30
  pub link_written : one_of (CLAIM ∷ []) s.op ≡ true → s.link ≢ 0 → written (escrow_count L) s.link ≡ true
  unfolding refusals_by entry_refusals envelope_refusals operation_refusals_by
  link_written t ne =
      not_false_true _ (there (not (eqb s.link 0)) (not (written (escrow_count L) s.link)) (ap not (ne_eqb s.link 0 ne))
      (for_op s (CLAIM ∷ []) _ t (or_none_snd (on s closing (not (written (escrow_count L) s.target))) _ (passed L r z 27))))

  parties_match : one_of (CLAIM ∷ []) s.op ≡ true → s.link ≢ 0
      → not (eqb (escrow L (s.link - 1) FROM) s.target) || not (eqb (escrow L (s.link - 1) TO) s.signer) ≡ false
  unfolding refusals_by entry_refusals envelope_refusals operation_refusals_by
  parties_match t ne =
      there (written (escrow_count L) s.link) _ (link_written t ne)
      (there (not (eqb s.link 0)) _ (ap not (ne_eqb s.link 0 ne)) (for_op s (CLAIM ∷ []) _ t (passed L r z 30)))

  pub link_from : one_of (CLAIM ∷ []) s.op ≡ true → s.link ≢ 0 → escrow L (s.link - 1) FROM ≡ s.target
  link_from t ne = eqb-true _ _ (not_false_true _ (or_none_fst _ _ (parties_match t ne)))

  pub link_to : one_of (CLAIM ∷ []) s.op ≡ true → s.link ≢ 0 → escrow L (s.link - 1) TO ≡ s.signer
  link_to t ne = eqb-true _ _ (not_false_true _ (or_none_snd (not (eqb (escrow L (s.link - 1) FROM) s.target)) _ (parties_match t ne)))

  -- 31
  pub link_deadline : one_of (CLAIM ∷ []) s.op ≡ true → s.link ≢ 0 → s.until ≤ escrow L (s.link - 1) ESCROW_DEADLINE
  unfolding refusals_by entry_refusals envelope_refusals operation_refusals_by
  link_deadline t ne =
      ltb-false _ _ (there (written (escrow_count L) s.link) _ (link_written t ne)
      (there (not (eqb s.link 0)) _ (ap not (ne_eqb s.link 0 ne)) (for_op s (CLAIM ∷ []) _ t (passed L r z 31))))

  -- 32, 34, 41
  pub receipt_written : one_of replying s.op ≡ true → written (receipt_count L) s.target ≡ true
  unfolding refusals_by entry_refusals envelope_refusals operation_refusals_by
  receipt_written t = not_false_true _ (for_op s replying (not (written (receipt_count L) s.target)) t (passed L r z 32))

  pub receipt_row : one_of replying s.op ≡ true → s.target - 1 < receipt_count L
  receipt_row t = written_row (receipt_count L) s.target (receipt_written t)

  pub receipt_pending : one_of replying s.op ≡ true → eqb (receipt L (s.target - 1) RECEIPT_STATE) PENDING ≡ true
  unfolding refusals_by entry_refusals envelope_refusals operation_refusals_by
  receipt_pending t = not_false_true _ (there (written (receipt_count L) s.target) _ (receipt_written t) (for_op s replying _ t (passed L r z 34)))

  pub reply_in_time : one_of replying s.op ≡ true → s.now ≤ receipt L (s.target - 1) ACCEPTANCE_DEADLINE
  unfolding refusals_by entry_refusals envelope_refusals operation_refusals_by
  reply_in_time t = ltb-false _ _ (there (written (receipt_count L) s.target) _ (receipt_written t) (for_op s replying _ t (passed L r z 41)))

  -- 36
  pub grant_within : one_of (GRANT ∷ []) s.op ≡ true → head L GRANTED + s.amount ≤ MAX_GRANTED_MICRO
  unfolding refusals_by entry_refusals envelope_refusals operation_refusals_by
  grant_within t = ltb-false _ _ (for_op s (GRANT ∷ []) _ t (passed L r z 36))

  -- room for a new row: 37, 38, 39
  pub wallet_place : one_of (GRANT ∷ TRANSFER ∷ OPEN ∷ []) s.op ≡ true → has_wallet L s.target ≡ false → wallet_count L < rows_in WALLET_LEN L.wallets
  unfolding refusals_by entry_refusals envelope_refusals operation_refusals_by
  wallet_place t e =
      leb-false _ _ (there (not (has_wallet L s.target)) _ (ap not e) (for_op s (GRANT ∷ TRANSFER ∷ OPEN ∷ []) _ t (passed L r z 37)))

  pub escrow_place : one_of (OPEN ∷ []) s.op ≡ true → escrow_count L < rows_in L.edition.escrow L.escrows
  unfolding refusals_by entry_refusals envelope_refusals operation_refusals_by
  escrow_place t = leb-false _ _ (for_op s (OPEN ∷ []) _ t (passed L r z 38))

  pub receipt_place : one_of (CLAIM ∷ []) s.op ≡ true → receipt_count L < rows_in RECEIPT_LEN L.receipts
  unfolding refusals_by entry_refusals envelope_refusals operation_refusals_by
  receipt_place t = leb-false _ _ (for_op s (CLAIM ∷ []) _ t (passed L r z 39))
