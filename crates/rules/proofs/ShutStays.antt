-- A settled submission leaves the closed wallets as they are: shown by operation, from the small moves of Shut. Grants, transfers, opens, freezes and
-- caps name wallets that are not closed by check 43, and a wallet is closed that is empty by check 42. An end touches the wallets of an open escrow: its
-- sender has locked credits and its recipient an open escrow to it, so neither is closed. A sweep goes turn by turn, each on a good ledger.
use mathlib.Core.Path.{◌≡◌, refl, sym, ap, ◌∙◌, subst, subst₃}
use mathlib.Core.Logic.{◌≢◌}
use mathlib.Core.List.{List, [], ◌∷◌}
use mathlib.Core.Bool.{true, false, ◌&&◌, true≢false}
use Prim.Native.Nat.{ℕ, ◌+◌, ◌-◌, ◌≤◌, ◌<◌}
use native.Mathlib.Omega.{arith}
use lib.ListN.{get_or, length}
use lib.Seq.{get_or-set_other}
use lib.Dec.{eqb, ltb, lit<, lit≤}
use borrow.Author.Tests.{eqb-false, ltb-false, lt-ltb}
use Rattle.rules.specs.Limits.{LAST_TIME_MS, AUTO_OR_FREEZE, GRANT, TRANSFER, OPEN, CLAIM, SWEEP, FREEZE, CAPS, CLOSE}
use Rattle.rules.specs.Limits.{SYSTEM_FROZEN, CLOCK, GRANTED, WALLETS, ESCROWS, RECEIPTS, ID, BALANCE, LOCKED, FROZEN, TX_CAP, DAILY_CAP, IS_CLOSED}
use Rattle.rules.specs.Limits.{FROM, TO, ESCROW_STATE, ESCROW_CLOSED_AT, ESCROW_CLOSED_BY, IS_OPEN, RELEASED, RECEIPT_LINK, AUTO_ACCEPT}
use Rattle.rules.specs.Table.{word, rows_in}
use Rattle.rules.specs.Ledger.{Edition, Ledger, wallet, escrow, receipt, wallet_count, escrow_count, receipt_count, wallet_row, has_wallet, wallet_of, set_escrows}
use Rattle.rules.specs.Ledger.{put_head, put_wallet, put_escrow, put_receipt, new_receipt}
use Rattle.rules.specs.Wallets.{is_closed}
use Rattle.rules.specs.Record.{bit}
use Rattle.rules.specs.Refusals.{releasable, one_of, paying, closing, replying, signs, targets}
use Rattle.rules.specs.Settle.{raise, lower, ensure_wallet, end_escrow, close_receipt, Done, accept_row, Sweep, sweep_start, due_receipt, due_escrow}
use Rattle.rules.specs.Settle.{close_due_receipt, close_due_escrow, sweep_receipt, sweep_escrow, swept_receipts, swept, operations, idle, operate_by, operate, enter, settle_by, settle}
use Rattle.rules.specs.Settle.{grant, transfer, open_escrow, release, refund, claim, accept, dispute, sweep, freeze, caps, close}
use Rattle.rules.specs.Submit.{answer_of}
use Rattle.rules.specs.Promises.{Lent}
use Rattle.rules.specs.declared.Submission.{Submission}
use Rattle.rules.specs.declared.Read.{Read}
use Rattle.rules.proofs.Bools.{and_fst, and_snd, or_none_fst, or_none_snd, cond_case}
use Rattle.rules.proofs.Tests.{header_wide, State}
use Rattle.rules.proofs.Formed.{Formed}
use Rattle.rules.proofs.Accounts.{row_hit, bal_found}
use Rattle.rules.proofs.Moves.{shut, shut_col, shut_first, distinct_mv}
use Rattle.rules.proofs.Good.{Good, from_written, to_written, escrow_held, good_of}
use Rattle.rules.proofs.Stays.{Kept, kept_start, kept_close, row_kept, link_row, loop_keeps, receipt_turn as kept_receipt, escrow_turn as kept_escrow}
use Rattle.rules.proofs.Ensured.{Ensured, ensured}
use Rattle.rules.proofs.Calls.{settled, by_op, by_reply}
use Rattle.rules.proofs.Passed.{there, sender_row, target_some, target_row, frozen_row, signer_live, target_live, target_empty}
use Rattle.rules.proofs.Passed.{escrow_row, escrow_open, receipt_row, wallet_place, escrow_place}
use Rattle.rules.proofs.Shut.{Empty, Shuts, Leaves, leaves_same, leaves_then, Alive, live_put, leaves_put, leaves_close, alive_moved, leaves_moved, leaves_escrows}
use Rattle.rules.proofs.Shut.{leaves_tables, leaves_head, leaves_receipt, leaves_code, leaves_entry, leaves_made, leaves_opened, none_open}

-- ---- an open escrow ends

module _ (L : Ledger) (good : Good L) (s : Shuts L) (i : ℕ) (i< : i < escrow_count L) (open_i : eqb (escrow L i ESCROW_STATE) IS_OPEN ≡ true) where
  from_alive : Alive L (escrow L i FROM)
  from_alive e = omega (arith, (s _ (from_written L good i i<) e).locked, escrow_held L good i i< open_i, (good.escrow_rows i i<).low)

  to_alive : Alive L (escrow L i TO)
  to_alive e =
      let found = to_written L good i i< in
      (s _ found e).none_to i i< open_i (sym (row_hit L.wallets (wallet_count L) (escrow L i TO) found))

  leaves_end : (state now signer : ℕ) → eqb state IS_OPEN ≡ false → Leaves L (end_escrow state now signer i L)
  unfolding end_escrow put_escrow
  leaves_end state now signer closed =
      leaves_then ended
      (leaves_moved (set_escrows es L) LOCKED (escrow L i FROM) BALANCE _ _ (lit≤ tt) (lit≤ tt) (lit≤ tt) (lit≤ tt) ended.shuts from_alive
      (cond_case (Alive L) (eqb state RELEASED) (escrow L i TO) (escrow L i FROM) (λ _. to_alive) (λ _. from_alive)))
    where
      len : ℕ
      len = L.edition.escrow

      es : List ℕ
      es = shut L.escrows len i ESCROW_STATE state ESCROW_CLOSED_AT now ESCROW_CLOSED_BY signer

      to : (k : ℕ) → word es len k TO ≡ escrow L k TO
      to k =
          shut_col L.escrows len i ESCROW_STATE state ESCROW_CLOSED_AT now ESCROW_CLOSED_BY signer (omega (arith, good.wide)) (omega (arith, good.wide))
          (omega (arith, good.wide)) k TO (omega (arith, good.wide)) (omega arith) (omega arith) (omega arith)

      ended : Leaves L (set_escrows es L)
      ended =
          leaves_escrows refl refl s (λ j h e k l.
          shut_first L.escrows len i ESCROW_STATE state ESCROW_CLOSED_AT now ESCROW_CLOSED_BY signer (omega (arith, good.wide)) (omega (arith, good.wide))
          (omega (arith, good.wide)) (λ (x : ℕ). eqb x IS_OPEN ≡ true → word es len k TO ≢ wallet L j ID) k (omega arith) (omega arith)
          (λ o. subst (λ (x : ℕ). x ≢ wallet L j ID) (sym (to k)) ((s j h e).none_to k l o))
          (λ o. absurd (true≢false (sym o ∙ closed))))

-- ---- a receipt is accepted

-- closing it leaves the escrows, so the one that is released is still open
leaves_released : (state now signer state' now' signer' i k : ℕ) (L : Ledger) → Good L → Shuts L → k < escrow_count L → eqb (escrow L k ESCROW_STATE) IS_OPEN ≡ true
    → eqb state IS_OPEN ≡ false → State state' → now' ≤ LAST_TIME_MS → Leaves L (end_escrow state now signer k (close_receipt state' now' signer' i L))
unfolding close_receipt put_receipt
leaves_released state now signer state' now' signer' i k L good s k< open_k c state_right now_right =
    let closed = leaves_receipt state' now' signer' i L s in
    leaves_then closed (leaves_end _ (kept_close L good i state' now' signer' state_right now_right).good closed.shuts k k< open_k state now signer c)

leaves_accept : (now signer i : ℕ) (L : Ledger) → Good L → Shuts L → i < receipt_count L → now ≤ LAST_TIME_MS → Leaves L (accept_row now signer i L).after
unfolding accept_row
leaves_accept now signer i L good s i< now_right =
    let k : ℕ = receipt L i RECEIPT_LINK in
    cond_case (λ (d : Done). Leaves L d.after) (eqb k 0) _ _ (λ e. leaves_receipt _ _ _ _ L s)
    (λ e.
    cond_case (λ (d : Done). Leaves L d.after) (releasable L now (k - 1)) _ _
    (λ h.
    leaves_released _ _ _ _ _ _ i (k - 1) L good s (link_row L good i i< (eqb-false k 0 e)) (and_fst (eqb (escrow L (k - 1) ESCROW_STATE) IS_OPEN) _ h)
    refl (lit≤ tt, lit≤ tt) now_right)
    (λ h. leaves_code _ _ _ _ _ _ L s))

-- ---- a sweep

module _ (L : Ledger) (now : ℕ) (now_right : now ≤ LAST_TIME_MS) where
  leaves_due_receipt : (K : Ledger) → Good K → Shuts K → (i : ℕ) → i < receipt_count K → Leaves K (close_due_receipt now i K)
  unfolding close_due_receipt
  leaves_due_receipt K g s i i< =
      cond_case (Leaves K) (eqb (receipt K i AUTO_ACCEPT) 1) _ _ (λ h. leaves_accept _ _ i K g s i< now_right) (λ h. leaves_receipt _ _ _ i K s)

  leaves_due_escrow : (K : Ledger) → Good K → Shuts K → (i : ℕ) → i < escrow_count K → due_escrow K now i ≡ true → Leaves K (close_due_escrow now i K)
  unfolding close_due_escrow
  leaves_due_escrow K g s i i< h = leaves_end K g s i i< (and_fst (eqb (escrow K i ESCROW_STATE) IS_OPEN) _ h) _ _ _ refl

  -- what each turn keeps: the ledger is good, and closed wallets are left
  record Turned (s : Sweep) : Type 0 where
    kept : Kept L s.tables
    leaves : Leaves L s.tables

  turn_receipt : (i : ℕ) → i < receipt_count L → (s : Sweep) → Turned s → Turned (sweep_receipt now i s)
  unfolding sweep_receipt
  turn_receipt i i< s a = record {
    kept = kept_receipt L now now_right i i< s a.kept;
    leaves = cond_case (λ (z : Sweep). Leaves L z.tables) (ltb 0 s.room && due_receipt s.tables now i) _ s
        (λ e. leaves_then a.leaves (leaves_due_receipt s.tables a.kept.good a.leaves.shuts i (row_kept RECEIPTS a.kept i<))) (λ e. a.leaves);
  }

  turn_escrow : (i : ℕ) → i < escrow_count L → (s : Sweep) → Turned s → Turned (sweep_escrow now i s)
  unfolding sweep_escrow
  turn_escrow i i< s a = record {
    kept = kept_escrow L now now_right i i< s a.kept;
    leaves = cond_case (λ (z : Sweep). Leaves L z.tables) (ltb 0 s.room && due_escrow s.tables now i) _ s
        (λ e. leaves_then a.leaves
        (leaves_due_escrow s.tables a.kept.good a.leaves.shuts i (row_kept ESCROWS a.kept i<) (and_snd (ltb 0 s.room) _ e))) (λ e. a.leaves);
  }

  leaves_swept : (limit : ℕ) → Good L → Shuts L → Leaves L (swept now limit L).tables
  unfolding swept swept_receipts
  leaves_swept limit good s =
      (loop_keeps Turned (escrow_count L) (sweep_escrow now) turn_escrow _
      (loop_keeps Turned (receipt_count L) (sweep_receipt now) turn_receipt (sweep_start limit L) (record { kept = kept_start L good; leaves = leaves_same L s }))).leaves

-- ---- each operation

-- the operations that may make a wallet, and those that name a party
abbrev making : List ℕ
making = GRANT ∷ TRANSFER ∷ OPEN ∷ []

abbrev named : List ℕ
named = GRANT ∷ TRANSFER ∷ OPEN ∷ CLAIM ∷ []

module _ (L : Ledger) (r : Read) (z : answer_of L r ≡ 0) (form : Formed r.submission) (lent : Lent L) (shuts : Shuts L) where
  abbrev s : Submission
  s = r.submission

  head_wide : 8 ≤ length L.header
  head_wide = header_wide L lent.lengths lent.header

  good_L : Good L
  good_L = good_of L lent.escrow (settled L r z).is_sound

  alive : (v : ℕ) → wallet_row L v < wallet_count L → is_closed L v ≡ false → Alive L v
  alive v found e = eqb-false _ IS_CLOSED (there (has_wallet L v) _ (lt-ltb _ _ found) e)

  -- the target's wallet is there, or is made
  K : Ledger
  K = ensure_wallet s.target L

  made : one_of making s.op ≡ true → one_of named s.op ≡ true → Ensured L K s.target
  unfolding K
  made t u = ensured L s.target good_L head_wide (omega (arith, target_some L r z u)) (wallet_place L r z t)

  leaves_K : one_of making s.op ≡ true → Leaves L K
  unfolding K
  leaves_K t = leaves_made s.target L head_wide (wallet_place L r z t) shuts

  -- a wallet that is there then is not closed if it was not: a new one is not frozen
  alive_K : Ensured L K s.target → (v : ℕ) → wallet_row K v < wallet_count K → is_closed L v ≡ false → Alive K v
  alive_K en v found e q =
      cond_case (λ (x : ℕ). x ≢ IS_CLOSED) (has_wallet L v) (wallet L (wallet_row L v) FROZEN) 0 (λ h. eqb-false _ IS_CLOSED (there (has_wallet L v) _ h e)) (λ h. omega arith)
      (sym (en.same v FROZEN (lit< tt) refl) ∙ bal_found K.wallets (wallet_count K) v FROZEN found ∙ q)

  signer_alive : Ensured L K s.target → one_of paying s.op ≡ true → one_of signs s.op ≡ true → Alive K s.signer
  signer_alive en t u = alive_K en s.signer (en.keeps s.signer (sender_row L r z t)) (signer_live L r z u)

  target_alive : Ensured L K s.target → one_of targets s.op ≡ true → Alive K s.target
  target_alive en u = alive_K en s.target en.found (target_live L r z u)

  leaves_grant : s.op ≡ GRANT → Leaves L (grant s L).after
  unfolding grant raise K
  leaves_grant e =
      let en = made (ap (one_of making) e) (ap (one_of named) e) in
      let a : Leaves L K = leaves_K (ap (one_of making) e) in
      let b = leaves_put K (wallet_row K s.target) BALANCE _ (lit< tt) a.shuts (target_alive en (ap (one_of targets) e)) (λ q. absurd (omega arith)) in
      leaves_then a (leaves_then b (leaves_head GRANTED _ _ (omega arith) (omega arith) b.shuts))

  leaves_transfer : s.op ≡ TRANSFER → Leaves L (transfer s L).after
  unfolding transfer K
  leaves_transfer e =
      let en = made (ap (one_of making) e) (ap (one_of named) e) in
      let a : Leaves L K = leaves_K (ap (one_of making) e) in
      leaves_then a (leaves_moved K BALANCE s.signer BALANCE s.target s.amount (lit≤ tt) (lit≤ tt) (lit≤ tt) (lit≤ tt) a.shuts
      (signer_alive en (ap (one_of paying) e) (ap (one_of signs) e)) (target_alive en (ap (one_of targets) e)))

  leaves_open : s.op ≡ OPEN → Leaves L (open_escrow s L).after
  unfolding open_escrow raise lower put_wallet K
  leaves_open e =
      let en = made (ap (one_of making) e) (ap (one_of named) e) in
      let a : Leaves L K = leaves_K (ap (one_of making) e) in
      let from = signer_alive en (ap (one_of paying) e) (ap (one_of signs) e) in
      let M : Ledger = raise LOCKED s.signer s.amount (lower BALANCE s.signer s.amount K) in
      let b : Leaves K M = leaves_moved K BALANCE s.signer LOCKED s.signer s.amount (lit≤ tt) (lit≤ tt) (lit≤ tt) (lit≤ tt) a.shuts from from in
      leaves_then a (leaves_then b (leaves_opened s M en.good.wide (omega (arith, en.header, head_wide))
      (subst₃ (λ (d : Edition) (n : ℕ) (l : List ℕ). n < rows_in d.escrow l) (sym en.edition) (sym (en.others ESCROWS (omega arith))) (sym en.escrows)
      (escrow_place L r z (ap (one_of (OPEN ∷ [])) e)))
      (distinct_mv K.wallets (wallet_count K) BALANCE _ LOCKED _ _ (lit< tt) (omega arith) (lit< tt) (omega arith) en.good.distinct) b.shuts
      (alive_moved K BALANCE s.signer LOCKED s.signer s.amount (lit≤ tt) (lit≤ tt) (lit≤ tt) (lit≤ tt) s.target (target_alive en (ap (one_of targets) e)))))

  leaves_freeze : s.op ≡ FREEZE → Leaves L (freeze s L).after
  unfolding freeze
  leaves_freeze e =
      cond_case (Leaves L) (eqb s.target 0) _ _ (λ h. leaves_head SYSTEM_FROZEN _ L (omega arith) (omega arith) shuts)
      (λ h.
      leaves_put L (wallet_row L s.target) FROZEN (bit AUTO_OR_FREEZE s.flags) (lit< tt) shuts
      (alive s.target (frozen_row L r z (ap (one_of (FREEZE ∷ [])) e) (eqb-false s.target 0 h)) (target_live L r z (ap (one_of targets) e))) (λ q. omega arith))

  -- the wallet whose caps are set, or that is closed, is there, and not closed
  there_alive : one_of (CAPS ∷ CLOSE ∷ []) s.op ≡ true → one_of targets s.op ≡ true → Alive L s.target
  there_alive t u = alive s.target (target_row L r z t) (target_live L r z u)

  leaves_caps : s.op ≡ CAPS → Leaves L (caps s L).after
  unfolding caps
  leaves_caps e =
      let i : ℕ = wallet_row L s.target in
      let live = there_alive (ap (one_of (CAPS ∷ CLOSE ∷ [])) e) (ap (one_of targets) e) in
      let a = leaves_put L i TX_CAP _ (lit< tt) shuts live (λ q. absurd (omega arith)) in
      leaves_then a (leaves_put _ i DAILY_CAP _ (lit< tt) a.shuts (live_put L i TX_CAP _ (lit< tt) i (omega arith) live) (λ q. absurd (omega arith)))

  -- the wallet that is closed is empty
  closes_empty : s.op ≡ CLOSE → Empty L (wallet_row L s.target)
  closes_empty e =
      let found = target_row L r z (ap (one_of (CAPS ∷ CLOSE ∷ [])) e) in
      let none = there (has_wallet L s.target) _ (lt-ltb _ _ found) (target_empty L r z (ap (one_of (CLOSE ∷ [])) e)) in
      let rest = or_none_snd (ltb 0 (wallet_of L s.target BALANCE)) _ none in
      record {
        balance = omega (arith, ltb-false 0 (wallet_of L s.target BALANCE) (or_none_fst _ _ none));
        locked = omega (arith, ltb-false 0 (wallet_of L s.target LOCKED) (or_none_fst _ _ rest));
        none_to = λ j l o t. none_open _ _ (escrow_count L) s.target (or_none_snd (ltb 0 (wallet_of L s.target LOCKED)) _ rest) j l o
            (t ∙ row_hit L.wallets (wallet_count L) s.target found);
      }

  leaves_closed : s.op ≡ CLOSE → Leaves L (close s L).after
  unfolding close
  leaves_closed e =
      leaves_close L (wallet_row L s.target) shuts (there_alive (ap (one_of (CAPS ∷ CLOSE ∷ [])) e) (ap (one_of targets) e)) (closes_empty e)

  leaves_ended : (state now signer : ℕ) → one_of closing s.op ≡ true → eqb state IS_OPEN ≡ false → Leaves L (end_escrow state now signer (s.target - 1) L)
  leaves_ended state now signer t c = leaves_end L good_L shuts (s.target - 1) (escrow_row L r z t) (escrow_open L r z t) state now signer c

  leaves_claim : Leaves L (claim s L).after
  unfolding claim new_receipt put_head
  leaves_claim =
      leaves_tables refl (get_or-set_other L.header RECEIPTS WALLETS (receipt_count L + 1) 0 (omega arith)) refl refl
      (get_or-set_other L.header RECEIPTS ESCROWS (receipt_count L + 1) 0 (omega arith)) shuts

  leaves_operate : Leaves L (operate s L).after
  unfolding operate_by release refund accept dispute sweep
  leaves_operate =
      by_op (λ (o : ℕ). Leaves L (get_or operations (o - 1) idle s L).after) s.op form.low form.high form.not_8 leaves_grant leaves_transfer leaves_open
      (λ e. leaves_ended _ _ _ (ap (one_of closing) e) refl) (λ e. leaves_ended _ _ _ (ap (one_of closing) e) refl) (λ e. leaves_claim)
      (λ e. by_reply (λ (d : Done). Leaves L d.after) s L (λ h. leaves_receipt _ _ _ _ L shuts)
      (λ h. leaves_accept _ _ _ L good_L shuts (receipt_row L r z (ap (one_of replying) e)) form.now_right))
      (λ e. leaves_swept L _ form.now_right _ good_L shuts)
      leaves_freeze leaves_caps leaves_closed

  -- clock and journal
  pub leaves_settle : Leaves L (settle s L).after
  unfolding settle_by enter
  leaves_settle =
      let a = leaves_operate in
      let M : Ledger = put_head CLOCK s.now (operate s L).after in
      let b : Leaves L M = leaves_then a (leaves_head CLOCK s.now (operate s L).after (omega arith) (omega arith) a.shuts) in
      cond_case (Leaves L) (eqb s.op SWEEP) M _ (λ e. b) (λ e. leaves_then b (leaves_entry _ M b.shuts))
