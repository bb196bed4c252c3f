-- A sweep closes the first of the rows that were due before it, receipts first, as many as its limit allows, and its word is how many. Closing
-- a receipt touches no other receipt; if it releases an escrow, that one was not stale, so no escrow becomes due or ceases to be. Closing an
-- escrow touches no other escrow.
use mathlib.Core.Path.{◌≡◌, refl, sym, ap, ap₂, ◌∙◌, subst}
use mathlib.Core.Logic.{◌≢◌}
use mathlib.Core.List.{List, [], ◌∷◌}
use mathlib.Core.Bool.{true, false, ◌&&◌}
use Prim.Native.Nat.{ℕ, ◌+◌, ◌-◌, ◌≤◌, ◌<◌}
use native.Mathlib.Decide.{ℕ_discrete}
use native.Mathlib.Omega.{arith}
use lib.ListN.{get_or, length, take, length-take}
use lib.Dec.{eqb, ltb, leb, lit<}
use borrow.Author.Tests.{le-ltb, leb-true}
use Rattle.rules.specs.Limits.{RECEIPT_LEN, ESCROW_DEADLINE, ESCROW_STATE, ESCROW_CLOSED_AT, ESCROW_CLOSED_BY, IS_OPEN, RELEASED, EXPIRED}
use Rattle.rules.specs.Limits.{RECEIPT_LINK, ACCEPTANCE_DEADLINE, AUTO_ACCEPT, RECEIPT_STATE, RECEIPT_CLOSED_AT, RECEIPT_CLOSED_BY, RELEASE_CODE}
use Rattle.rules.specs.Limits.{PENDING, ACCEPTED, LAPSED, RELEASE_IMPOSSIBLE}
use Rattle.rules.specs.Table.{loop}
use Rattle.rules.specs.Ledger.{Edition, Ledger, Outcome, escrow, receipt, receipt_count, escrow_count, put_wallet, put_escrow, put_receipt}
use Rattle.rules.specs.Record.{read_of}
use Rattle.rules.specs.Refusals.{releasable}
use Rattle.rules.specs.Settle.{Done, done, Sweep, swept_receipts, swept, due_receipt, due_escrow, raise, lower, end_escrow, close_receipt, accept_row}
use Rattle.rules.specs.Settle.{close_due_receipt, close_due_escrow, sweep_receipt, sweep_escrow, sweep, operations, idle, operate_by, settle_by}
use Rattle.rules.specs.Due.{due_receipts, due_escrows, close_all}
use Rattle.rules.specs.Promises.{SweepCounts, SweepAnswers, SweepCloses}
use Rattle.rules.specs.declared.Submission.{Submission}
use Rattle.rules.proofs.Bools.{and_snd, and_none_snd, cond_case}
use Rattle.rules.proofs.Rows.{word_row}
use Rattle.rules.proofs.Moves.{shut_col, shut_row}
use Rattle.rules.proofs.Demand12.{laid_down}
use Rattle.rules.proofs.Keeps.{keeps_due_receipt, keeps_due_escrow}
use Rattle.rules.proofs.Turns.{those_ext, close_keeps, closed_rows, turns}

-- ---- what closing a row leaves

-- every other receipt is due or not as it was, and every escrow
pub record Leaves (now i : ℕ) (L K : Ledger) : Type 0 where
  pub others : (j : ℕ) → j ≢ i → due_receipt K now j ≡ due_receipt L now j
  pub escrows : (j : ℕ) → due_escrow K now j ≡ due_escrow L now j

leaves_then : {now i : ℕ} {L K M : Ledger} → Leaves now i L K → Leaves now i K M → Leaves now i L M
leaves_then a b = record { others = λ j ne. b.others j ne ∙ a.others j ne; escrows = λ j. b.escrows j ∙ a.escrows j }

leaves_close : (state now signer i : ℕ) (L : Ledger) → Leaves now i L (close_receipt state now signer i L)
unfolding close_receipt put_receipt
leaves_close state now signer i L = record {
  others = λ j ne. ap₂ (λ (x y : ℕ). eqb x PENDING && ltb y now) (row j RECEIPT_STATE (lit< tt) ne) (row j ACCEPTANCE_DEADLINE (lit< tt) ne);
  escrows = λ j. refl;
}
  where
    row : (j k : ℕ) → k < RECEIPT_LEN → j ≢ i → receipt (close_receipt state now signer i L) j k ≡ receipt L j k
    row j k k< ne = unfold close_receipt put_receipt in
        shut_row L.receipts RECEIPT_LEN i RECEIPT_STATE state RECEIPT_CLOSED_AT now RECEIPT_CLOSED_BY signer (lit< tt) (lit< tt) (lit< tt) j k k< ne

leaves_code : (now i v : ℕ) (L : Ledger) → Leaves now i L (put_receipt i RELEASE_CODE v L)
unfolding put_receipt
leaves_code now i v L = record {
  others = λ j ne.
      ap₂ (λ (x y : ℕ). eqb x PENDING && ltb y now) (word_row L.receipts RECEIPT_LEN i RELEASE_CODE v j RECEIPT_STATE (lit< tt) (lit< tt) ne)
      (word_row L.receipts RECEIPT_LEN i RELEASE_CODE v j ACCEPTANCE_DEADLINE (lit< tt) (lit< tt) ne);
  escrows = λ j. refl;
}

module _ (state now signer i : ℕ) (L : Ledger) (wide : 8 ≤ L.edition.escrow) where
  end_receipts : (j : ℕ) → due_receipt (end_escrow state now signer i L) now j ≡ due_receipt L now j
  unfolding end_escrow raise lower put_wallet put_escrow
  end_receipts j = refl

  -- no other escrow is touched
  end_other : (j : ℕ) → j ≢ i → due_escrow (end_escrow state now signer i L) now j ≡ due_escrow L now j
  unfolding end_escrow raise lower put_wallet put_escrow
  end_other j ne = ap₂ (λ (x y : ℕ). eqb x IS_OPEN && ltb y now) (row ESCROW_STATE (omega (arith, wide))) (row ESCROW_DEADLINE (omega (arith, wide)))
    where
      row : (k : ℕ) → k < L.edition.escrow → escrow (end_escrow state now signer i L) j k ≡ escrow L j k
      row k k< = unfold end_escrow raise lower put_wallet put_escrow in
          shut_row L.escrows L.edition.escrow i ESCROW_STATE state ESCROW_CLOSED_AT now ESCROW_CLOSED_BY signer (omega (arith, wide))
          (omega (arith, wide)) (omega (arith, wide)) j k k< ne

  end_deadline : (j : ℕ) → escrow (end_escrow state now signer i L) j ESCROW_DEADLINE ≡ escrow L j ESCROW_DEADLINE
  unfolding end_escrow raise lower put_wallet put_escrow
  end_deadline j =
      shut_col L.escrows L.edition.escrow i ESCROW_STATE state ESCROW_CLOSED_AT now ESCROW_CLOSED_BY signer (omega arith) (omega arith)
      (omega arith) j ESCROW_DEADLINE (omega arith) (omega arith) (omega arith) (omega arith)

  -- an escrow that is not stale is not due, before and after
  end_fresh : leb now (escrow L i ESCROW_DEADLINE) ≡ true → (j : ℕ) → due_escrow (end_escrow state now signer i L) now j ≡ due_escrow L now j
  end_fresh h j = go (ℕ_discrete j i)
    where
      K : Ledger
      K = end_escrow state now signer i L

      not_stale : ltb (escrow L i ESCROW_DEADLINE) now ≡ false
      not_stale = le-ltb (escrow L i ESCROW_DEADLINE) now (leb-true now (escrow L i ESCROW_DEADLINE) h)

      not_due : (M : Ledger) → escrow M i ESCROW_DEADLINE ≡ escrow L i ESCROW_DEADLINE → due_escrow M now i ≡ false
      not_due M e = and_none_snd (eqb (escrow M i ESCROW_STATE) IS_OPEN) (ltb (escrow M i ESCROW_DEADLINE) now) (ap (λ (y : ℕ). ltb y now) e ∙ not_stale)

      go : Dec (j ≡ i) → due_escrow K now j ≡ due_escrow L now j
      go (yes e) = subst (λ (k : ℕ). due_escrow K now k ≡ due_escrow L now k) (sym e) (not_due K (end_deadline i) ∙ sym (not_due L refl))
      go (no e) = end_other j e

-- a receipt accepted, or expired
pub leaves_due : (now i : ℕ) (L : Ledger) → 8 ≤ L.edition.escrow → Leaves now i L (close_due_receipt now i L)
unfolding close_due_receipt accept_row
leaves_due now i L wide =
    cond_case (Leaves now i L) (eqb (receipt L i AUTO_ACCEPT) 1) (accept_row now 0 i L).after (close_receipt LAPSED now 0 i L)
    (λ e. cond_case (λ (d : Done). Leaves now i L d.after) (eqb link 0) (done 0 closed) _ (λ a. leaves_close ACCEPTED now 0 i L)
    (λ a. cond_case (λ (d : Done). Leaves now i L d.after) (releasable L now (link - 1)) (done link (end_escrow RELEASED now 0 (link - 1) closed))
    (done 0 (put_receipt i RELEASE_CODE RELEASE_IMPOSSIBLE closed))
    (λ h. leaves_then (leaves_close ACCEPTED now 0 i L) (released (and_snd (eqb (escrow L (link - 1) ESCROW_STATE) IS_OPEN) _ h)))
    (λ h. leaves_then (leaves_close ACCEPTED now 0 i L) (leaves_code now i RELEASE_IMPOSSIBLE closed))))
    (λ e. leaves_close LAPSED now 0 i L)
  where
    link : ℕ
    link = receipt L i RECEIPT_LINK

    closed : Ledger
    closed = close_receipt ACCEPTED now 0 i L

    released : leb now (escrow L (link - 1) ESCROW_DEADLINE) ≡ true → Leaves now i closed (end_escrow RELEASED now 0 (link - 1) closed)
    released h = unfold close_receipt put_receipt in record {
      others = λ j ne. end_receipts RELEASED now 0 (link - 1) closed wide j;
      escrows = end_fresh RELEASED now 0 (link - 1) closed wide h;
    }

-- ---- the two loops

abbrev Wide : Ledger → Type 0
Wide L = 8 ≤ L.edition.escrow

wide_receipt : (now : ℕ) (L : Ledger) (i : ℕ) → Wide L → Wide (close_due_receipt now i L)
wide_receipt now L i w = subst (λ (e : Edition). 8 ≤ e.escrow) (sym (keeps_due_receipt now i L).lengths.edition) w

wide_escrow : (now : ℕ) (L : Ledger) (i : ℕ) → Wide L → Wide (close_due_escrow now i L)
wide_escrow now L i w = subst (λ (e : Edition). 8 ≤ e.escrow) (sym (keeps_due_escrow now i L).lengths.edition) w

pub escrow_frame : (now : ℕ) (L : Ledger) → Wide L → (i j : ℕ) → j ≢ i → due_escrow (close_due_escrow now i L) now j ≡ due_escrow L now j
unfolding close_due_escrow
escrow_frame now L w i j ne = end_other EXPIRED now 0 i L w j ne

-- the receipts' closings leave the due escrows due
pub closed_escrows : (now : ℕ) (ds : List ℕ) (L : Ledger) → Wide L → (j : ℕ) → due_escrow (close_all (close_due_receipt now) ds L) now j ≡ due_escrow L now j
closed_escrows now [] L w j = refl
closed_escrows now (d ∷ ds) L w j = closed_escrows now ds (close_due_receipt now d L) (wide_receipt now L d w) j ∙ (leaves_due now d L w).escrows j

module _ (now limit : ℕ) (L : Ledger) (w : 8 ≤ L.edition.escrow) where
  R : List ℕ
  R = take limit (due_receipts L now)

  M : Ledger
  M = close_all (close_due_receipt now) R L

  after_receipts : swept_receipts now limit L ≡ record { room = limit - length R; closed = 0 + length R; tables = M }
  unfolding M R swept_receipts sweep_receipt
  after_receipts =
      turns (λ K i. due_receipt K now i) (close_due_receipt now) Wide (wide_receipt now) (λ K v i j ne. (leaves_due now i K v).others j ne) limit 0 L w
      (receipt_count L)

  after_escrows : swept now limit L ≡ closed_rows (close_due_escrow now) (limit - length R) (0 + length R) M (take (limit - length R) (due_escrows L now))
  unfolding M R swept sweep_escrow
  after_escrows =
      ap (loop (escrow_count L) (sweep_escrow now)) after_receipts
      ∙ turns (λ K i. due_escrow K now i) (close_due_escrow now) Wide (wide_escrow now) (escrow_frame now) (limit - length R) (0 + length R) M
      (close_keeps Wide (close_due_receipt now) (wide_receipt now) R L w) (escrow_count L)
      ∙ ap (λ (l : List ℕ). closed_rows (close_due_escrow now) (limit - length R) (0 + length R) M (take (limit - length R) l))
      (those_ext (escrow_count L) (λ i. due_escrow M now i) (λ i. due_escrow L now i) (λ i h. closed_escrows now R L w i))

pub sweep_counts : SweepCounts
unfolding R
sweep_counts now limit L w =
    ap (λ (s : Sweep). s.closed) (after_escrows now limit L w)
    ∙ omega (arith, length-take limit (due_receipts L now), length-take (limit - length (take limit (due_receipts L now))) (due_escrows L now))

pub sweep_closes : SweepCloses
unfolding R M
sweep_closes now limit L w = ap (λ (s : Sweep). s.tables) (after_escrows now limit L w)

-- so the word of a settled sweep counts the rows that it closes
pub sweep_answers : SweepAnswers
unfolding settle_by operate_by sweep
sweep_answers L b w zero_b is_sweep =
    let s : Submission = (read_of b).submission in
    ap (λ (o : Outcome). o.word) (laid_down L b zero_b)
    ∙ ap (λ (o : ℕ). (get_or operations (o - 1) idle s L).word) is_sweep
    ∙ sweep_counts s.now s.amount L w
