-- Header and written rows alone decide what settling leaves: an accept, a sweep turn by turn, every operation, the clock and the journal. So one
-- submission is answered alike (`same_answers`). The second ledger is sound, as it settles; so a receipt's link names a written escrow.
use mathlib.Core.Path.{◌≡◌, refl, sym, ap, ap₂, ◌∙◌}
use mathlib.Core.Bool.{Bool, true, cond, ◌&&◌}
use Prim.Native.Nat.{ℕ, ◌-◌, ◌≤◌, ◌<◌}
use native.Mathlib.Omega.{arith}
use lib.ListN.{get_or}
use lib.Dec.{eqb, ltb, lit<, lit≤}
use borrow.Author.Tests.{eqb-false}
use Rattle.rules.specs.Limits.{ESCROW_LEN, LAST_TIME_MS, SYSTEM_FROZEN, CLOCK, GRANTED, ESCROWS, RECEIPTS, BALANCE, LOCKED, FROZEN, TX_CAP, DAILY_CAP}
use Rattle.rules.specs.Limits.{ESCROW_DEADLINE, ESCROW_STATE, RELEASED, REFUNDED}
use Rattle.rules.specs.Limits.{RECEIPT_LINK, ACCEPTANCE_DEADLINE, AUTO_ACCEPT, RECEIPT_STATE, RELEASE_CODE, RELEASE_IMPOSSIBLE, ACCEPTED, DISPUTED}
use Rattle.rules.specs.Limits.{REPLY, SWEEP, ACCEPTS}
use Rattle.rules.specs.Ledger.{Ledger, Outcome, outcome, receipt, escrow_count, receipt_count, has_wallet, put_head, put_wallet, new_wallet}
use Rattle.rules.specs.Record.{read_of}
use Rattle.rules.specs.Refusals.{clear, releasable, one_of, closing, replying}
use Rattle.rules.specs.Settle.{Done, done, Sweep, sweep_start, swept_receipts, swept, due_receipt, due_escrow, raise, lower, ensure_wallet, end_escrow}
use Rattle.rules.specs.Settle.{close_receipt, accept_row, close_due_receipt, close_due_escrow, sweep_receipt, sweep_escrow, escrow_of, receipt_of, entry_of}
use Rattle.rules.specs.Settle.{grant, transfer, open_escrow, release, refund, claim, accept, dispute, reply, sweep, freeze, caps, close, operations, idle, operate_by, operate, enter, settle_by, settle}
use Rattle.rules.specs.Submit.{answer_of, submit}
use Rattle.rules.specs.Same.{SameWritten, SameOutcome}
use Rattle.rules.specs.Agreement.{SameAnswers}
use Rattle.rules.specs.declared.Submission.{Submission}
use Rattle.rules.specs.declared.Read.{Read}
use Rattle.rules.proofs.Bools.{cond_case}
use Rattle.rules.proofs.Formed.{Formed, formed_says, read_formed}
use Rattle.rules.proofs.Good.{Good, good_of}
use Rattle.rules.proofs.Stays.{Kept, kept_start, row_kept, kept_close, link_row, receipt_turn, escrow_turn}
use Rattle.rules.proofs.Agree.{cond_rel}
use Rattle.rules.proofs.InStep.{loops_keep}
use Rattle.rules.proofs.Calls.{by_answer, settled, by_op}
use Rattle.rules.proofs.Passed.{escrow_row, receipt_row}
use Rattle.rules.proofs.SameReads.{head_same, escrow_same, receipt_same, row_same}
use Rattle.rules.proofs.SameRefusals.{answer_same}
use Rattle.rules.proofs.SameMoves.{same_head, same_put_wallet, same_put_receipt, same_new_escrow, same_new_receipt, same_new_entry, same_raise, same_lower, same_ensure, same_close, same_end}

record SameDone (c d : Done) : Type 0 where
  word : c.word ≡ d.word
  after : SameWritten c.after d.after

-- ---- an accept, and the sweep

same_accept : (K L : Ledger) → SameWritten K L → Good L → (now signer i : ℕ) → now ≤ LAST_TIME_MS → i < receipt_count L
    → SameDone (accept_row now signer i K) (accept_row now signer i L)
unfolding accept_row
same_accept K L a g now signer i now_right i< =
    let l : ℕ = receipt L i RECEIPT_LINK in
    let closed : SameWritten (close_receipt ACCEPTED now signer i K) (close_receipt ACCEPTED now signer i L) = same_close K L a ACCEPTED now signer i in
    let kept : Kept L (close_receipt ACCEPTED now signer i L) = kept_close L g i ACCEPTED now signer (lit≤ tt, lit≤ tt) now_right in
    rw (receipt_same K L a i i< RECEIPT_LINK (lit< tt))
    (cond_rel SameDone (eqb l 0) (eqb l 0) _ _ _ _ refl (λ e. record { word = refl; after = closed })
    (λ e.
    let l< : l - 1 < escrow_count L = link_row L g i i< (eqb-false l 0 e) in
    let w = escrow_same K L a g.wide (l - 1) l< in
    cond_rel SameDone (releasable K now (l - 1)) (releasable L now (l - 1)) _ _ _ _ (rw (w ESCROW_STATE (lit< tt), w ESCROW_DEADLINE (lit< tt)))
    (λ h. record { word = refl; after = same_end _ _ closed kept.good.wide RELEASED now signer (l - 1) (row_kept ESCROWS kept l<) })
    (λ h. record { word = refl; after = same_put_receipt _ _ closed i RELEASE_CODE RELEASE_IMPOSSIBLE })))

-- two sweeps in step, the second on a ledger that stays good
record InStep (L : Ledger) (s z : Sweep) : Type 0 where
  room : s.room ≡ z.room
  closed : s.closed ≡ z.closed
  tables : SameWritten s.tables z.tables
  kept : Kept L z.tables

-- one turn: both rows are due or neither
turn : (L : Ledger) (s z x y : Sweep) (b c : Bool) → InStep L s z → b ≡ c → (Kept L y.tables → InStep L x y)
    → Kept L (cond (ltb 0 z.room && c) y z).tables → InStep L (cond (ltb 0 s.room && b) x s) (cond (ltb 0 z.room && c) y z)
turn L s z x y b c a e f =
    cond_rel (λ (p q : Sweep). Kept L q.tables → InStep L p q) (ltb 0 s.room && b) (ltb 0 z.room && c) x s y z
    (ap₂ ◌&&◌ (ap (ltb 0) a.room) e) (λ h. f) (λ h k. a)

module _ (L : Ledger) (now : ℕ) (now_right : now ≤ LAST_TIME_MS) where
  step_receipt : (i : ℕ) → i < receipt_count L → (s z : Sweep) → InStep L s z → InStep L (sweep_receipt now i s) (sweep_receipt now i z)
  unfolding sweep_receipt close_due_receipt
  step_receipt i i< s z a =
      let j< : i < receipt_count z.tables = row_kept RECEIPTS a.kept i< in
      let w = receipt_same s.tables z.tables a.tables i j< in
      turn L s z _ _ (due_receipt s.tables now i) (due_receipt z.tables now i) a (rw (w RECEIPT_STATE (lit< tt), w ACCEPTANCE_DEADLINE (lit< tt)))
      (λ k. record {
        room = rw a.room;
        closed = rw a.closed;
        tables = cond_rel SameWritten (eqb (receipt s.tables i AUTO_ACCEPT) 1) (eqb (receipt z.tables i AUTO_ACCEPT) 1) _ _ _ _ (rw (w AUTO_ACCEPT (lit< tt)))
            (λ e. (same_accept s.tables z.tables a.tables a.kept.good now _ i now_right j<).after)
            (λ e. same_close s.tables z.tables a.tables _ now _ i);
        kept = k;
      })
      (receipt_turn L now now_right i i< z a.kept)

  step_escrow : (i : ℕ) → i < escrow_count L → (s z : Sweep) → InStep L s z → InStep L (sweep_escrow now i s) (sweep_escrow now i z)
  unfolding sweep_escrow close_due_escrow
  step_escrow i i< s z a =
      let j< : i < escrow_count z.tables = row_kept ESCROWS a.kept i< in
      let w = escrow_same s.tables z.tables a.tables a.kept.good.wide i j< in
      turn L s z _ _ (due_escrow s.tables now i) (due_escrow z.tables now i) a (rw (w ESCROW_STATE (lit< tt), w ESCROW_DEADLINE (lit< tt)))
      (λ k. record {
        room = rw a.room;
        closed = rw a.closed;
        tables = same_end s.tables z.tables a.tables a.kept.good.wide _ now _ i j<;
        kept = k;
      })
      (escrow_turn L now now_right i i< z a.kept)

  same_swept : (K : Ledger) → SameWritten K L → Good L → (limit : ℕ) → InStep L (swept now limit K) (swept now limit L)
  unfolding swept swept_receipts
  same_swept K a g limit =
      rw (head_same K L a ESCROWS, head_same K L a RECEIPTS)
      (loops_keep (InStep L) (escrow_count L) (sweep_escrow now) (sweep_escrow now) step_escrow _ _
      (loops_keep (InStep L) (receipt_count L) (sweep_receipt now) (sweep_receipt now) step_receipt (sweep_start limit K) (sweep_start limit L)
      (record { room = refl; closed = refl; tables = a; kept = kept_start L g })))

-- ---- every operation

-- making a wallet, and holding credits, leave the edition
held_edition : (id x target : ℕ) (L : Ledger) → (raise LOCKED id x (lower BALANCE id x (ensure_wallet target L))).edition ≡ L.edition
unfolding raise lower put_wallet ensure_wallet new_wallet put_head
held_edition id x target L = cond_case (λ (M : Ledger). M.edition ≡ L.edition) (has_wallet L target) L _ (λ e. refl) (λ e. refl)

module _ (K L : Ledger) (a : SameWritten K L) (whole : L.edition.escrow ≡ ESCROW_LEN) (r : Read) (z : answer_of L r ≡ 0) (form : Formed r.submission) where
  abbrev s : Submission
  s = r.submission

  good_L : Good L
  good_L = good_of L (omega arith) (settled L r z).is_sound

  same_made : SameWritten (ensure_wallet s.target K) (ensure_wallet s.target L)
  same_made = same_ensure K L a s.target

  same_paid : SameWritten (lower BALANCE s.signer s.amount (ensure_wallet s.target K)) (lower BALANCE s.signer s.amount (ensure_wallet s.target L))
  same_paid = same_lower _ _ same_made BALANCE s.signer s.amount (lit< tt)

  same_grant : SameDone (grant s K) (grant s L)
  unfolding grant
  same_grant = record {
    word = refl;
    after = rw (head_same K L a GRANTED) (same_head _ _ (same_raise _ _ same_made BALANCE _ _ (lit< tt)) GRANTED _ (omega arith) (omega arith) (omega arith) (omega arith));
  }

  same_transfer : SameDone (transfer s K) (transfer s L)
  unfolding transfer
  same_transfer = record { word = refl; after = same_raise _ _ same_paid BALANCE _ _ (lit< tt) }

  same_open : SameDone (open_escrow s K) (open_escrow s L)
  unfolding open_escrow
  same_open = record {
    word = rw a.header;
    after = same_new_escrow _ _ (same_raise _ _ same_paid LOCKED _ _ (lit< tt)) (escrow_of s)
        (rw (held_edition s.signer s.amount s.target L) (sym whole));
  }

  same_claim : SameDone (claim s K) (claim s L)
  unfolding claim
  same_claim = record { word = rw a.header; after = same_new_receipt K L a (receipt_of s) refl }

  same_freeze : SameDone (freeze s K) (freeze s L)
  unfolding freeze
  same_freeze = record {
    word = refl;
    after = cond_rel SameWritten (eqb s.target 0) (eqb s.target 0) _ _ _ _ refl
        (λ e. same_head K L a SYSTEM_FROZEN _ (omega arith) (omega arith) (omega arith) (omega arith))
        (λ e. rw (row_same K L a s.target) (same_put_wallet K L a _ FROZEN _ _ (λ h. refl)));
  }

  same_caps : SameDone (caps s K) (caps s L)
  unfolding caps
  same_caps = record {
    word = refl;
    after = rw (row_same K L a s.target) (same_put_wallet _ _ (same_put_wallet K L a _ TX_CAP _ _ (λ h. refl)) _ DAILY_CAP _ _ (λ h. refl));
  }

  same_shut : SameDone (close s K) (close s L)
  unfolding close
  same_shut = record { word = refl; after = rw (row_same K L a s.target) (same_put_wallet K L a _ FROZEN _ _ (λ h. refl)) }

  same_closing : one_of closing s.op ≡ true → (state : ℕ)
      → SameDone (done 0 (end_escrow state s.now s.signer (s.target - 1) K)) (done 0 (end_escrow state s.now s.signer (s.target - 1) L))
  same_closing t state = record { word = refl; after = same_end K L a (omega arith) state s.now s.signer (s.target - 1) (escrow_row L r z t) }

  same_reply : s.op ≡ REPLY → SameDone (reply s K) (reply s L)
  unfolding reply accept dispute
  same_reply e =
      cond_rel SameDone (clear s ACCEPTS) (clear s ACCEPTS) _ _ _ _ refl
      (λ h. record { word = refl; after = same_close K L a DISPUTED s.now s.signer (s.target - 1) })
      (λ h. same_accept K L a good_L s.now s.signer (s.target - 1) form.now_right (receipt_row L r z (ap (one_of replying) e)))

  same_operate : SameDone (operate s K) (operate s L)
  unfolding operate_by release refund sweep
  same_operate =
      by_op (λ (o : ℕ). SameDone (get_or operations (o - 1) idle s K) (get_or operations (o - 1) idle s L)) s.op form.low form.high form.not_8
      (λ e. same_grant) (λ e. same_transfer) (λ e. same_open)
      (λ e. same_closing (ap (one_of closing) e) RELEASED) (λ e. same_closing (ap (one_of closing) e) REFUNDED) (λ e. same_claim)
      same_reply
      (λ e. let x = same_swept L s.now form.now_right K a good_L s.amount in record { word = x.closed; after = x.tables })
      (λ e. same_freeze) (λ e. same_caps) (λ e. same_shut)

  same_settle : SameDone (settle s K) (settle s L)
  unfolding settle_by enter
  same_settle =
      let d = same_operate in
      let c = same_head _ _ d.after CLOCK s.now (omega arith) (omega arith) (omega arith) (omega arith) in
      record {
        word = d.word;
        after = cond_rel SameWritten (eqb s.op SWEEP) (eqb s.op SWEEP) _ _ _ _ refl (λ e. c)
            (λ e. rw d.word (same_new_entry _ _ c (entry_of s (operate s L).word) refl));
      }

-- ---- one submission

pub same_answers : SameAnswers
same_answers K L whole a b =
    by_answer (λ (o : Outcome). SameOutcome (submit K b) o) L b
    (λ z. by_answer (λ (o : Outcome). SameOutcome o (outcome 0 (settle (read_of b).submission L).word (settle (read_of b).submission L).after)) K b
    (λ y.
    let d = same_settle K L a whole (read_of b) z (formed_says (read_of b).submission (read_formed b (settled L (read_of b) z).formed)) in
    record { number = refl; word = d.word; left = d.after })
    (λ y. absurd (y (same ∙ z))))
    (λ z. by_answer (λ (o : Outcome). SameOutcome o (outcome (answer_of L (read_of b)) 0 L)) K b (λ y. absurd (z (sym same ∙ y)))
    (λ y. record { number = same; word = refl; left = a }))
  where
    same : answer_of K (read_of b) ≡ answer_of L (read_of b)
    same = answer_same K L a (omega arith) (read_of b)
