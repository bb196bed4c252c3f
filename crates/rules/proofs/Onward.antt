-- Of the escrows that are written, no submission changes an amount, and one that is not open stays in its state. Shown for each small move: ends
-- touch an open escrow only, a new escrow goes behind those that are written, and nothing else touches the escrows. Then for each operation.
use mathlib.Core.Path.{◌≡◌, refl, sym, ap, ◌∙◌, subst}
use mathlib.Core.Logic.{◌≢◌}
use mathlib.Core.List.{List}
use mathlib.Core.Bool.{true, false, ◌&&◌, true≢false}
use Prim.Native.Nat.{ℕ, ◌+◌, ◌-◌, ◌≤◌, ◌<◌}
use native.Mathlib.Nat.{le_refl}
use native.Mathlib.Omega.{arith}
use lib.ListN.{get_or, length, length-set}
use lib.Seq.{get_or-set_other}
use lib.Dec.{eqb, ltb}
use Rattle.rules.specs.Limits.{HEADER_LEN, ESCROW_LEN, WALLETS, ESCROWS, RECEIPT_LINK, AUTO_ACCEPT, SWEEP}
use Rattle.rules.specs.Limits.{ESCROW_AMOUNT, ESCROW_STATE, ESCROW_CLOSED_AT, ESCROW_CLOSED_BY, IS_OPEN, ACCEPTED}
use Rattle.rules.specs.Table.{word}
use Rattle.rules.specs.Ledger.{Edition, Ledger, head, escrow, receipt, wallet_count, escrow_count, receipt_count, has_wallet}
use Rattle.rules.specs.Ledger.{put_head, put_wallet, put_escrow, put_receipt, new_wallet, new_escrow, new_receipt, new_entry}
use Rattle.rules.specs.Record.{read_of}
use Rattle.rules.specs.Sound.{Ready}
use Rattle.rules.specs.Refusals.{releasable, one_of, closing}
use Rattle.rules.specs.Settle.{Done, Sweep, sweep_start, swept_receipts, swept, due_receipt, due_escrow, raise, lower, ensure_wallet, end_escrow, close_receipt, accept_row}
use Rattle.rules.specs.Settle.{close_due_receipt, close_due_escrow, sweep_receipt, sweep_escrow, escrow_of, operations, idle, operate_by, operate, enter, settle_by, settle}
use Rattle.rules.specs.Settle.{grant, transfer, open_escrow, release, refund, claim, accept, dispute, sweep, freeze, caps, close}
use Rattle.rules.specs.Submit.{answer_of, submit}
use Rattle.rules.specs.declared.Submission.{Submission}
use Rattle.rules.specs.declared.Read.{Read}
use Rattle.rules.proofs.Bools.{and_fst, and_snd, cond_case}
use Rattle.rules.proofs.Rows.{word_old}
use Rattle.rules.proofs.Moves.{shut_col, shut_row}
use Rattle.rules.proofs.Formed.{Formed, formed_says, read_formed}
use Rattle.rules.proofs.Stays.{loop_keeps}
use Rattle.rules.proofs.Calls.{by_left, settled, by_op, by_reply}
use Rattle.rules.proofs.Passed.{escrow_open}

-- of the escrows written in L, none has another amount in M, and one that is not open stays in its state
pub record Onward (L M : Ledger) : Type 0 where
  pub edition : M.edition ≡ L.edition
  pub amounts : (i : ℕ) → i < escrow_count L → escrow M i ESCROW_AMOUNT ≡ escrow L i ESCROW_AMOUNT
  pub shut : (i : ℕ) → i < escrow_count L → eqb (escrow L i ESCROW_STATE) IS_OPEN ≡ false → escrow M i ESCROW_STATE ≡ escrow L i ESCROW_STATE

pub onward_same : (L : Ledger) → Onward L L
onward_same L = record { edition = refl; amounts = λ i h. refl; shut = λ i h c. refl }

-- other tables beside the same escrows
pub onward_beside : {L K M : Ledger} → M.edition ≡ K.edition → M.escrows ≡ K.escrows → Onward L K → Onward L M
onward_beside {L} {K} {M} d t a = record {
  edition = d ∙ a.edition;
  amounts = λ i h. same i ESCROW_AMOUNT ∙ a.amounts i h;
  shut = λ i h c. same i ESCROW_STATE ∙ a.shut i h c;
}
  where
    same : (i k : ℕ) → escrow M i k ≡ escrow K i k
    same i k j = word (t j) (d j).escrow i k

pub onward_tables : {L M : Ledger} → M.edition ≡ L.edition → M.escrows ≡ L.escrows → Onward L M
onward_tables {L} d t = onward_beside d t (onward_same L)

pub onward_then : {L K M : Ledger} → escrow_count L ≤ escrow_count K → Onward L K → Onward K M → Onward L M
onward_then {L} {K} n a b = record {
  edition = b.edition ∙ a.edition;
  amounts = λ i h. b.amounts i (omega arith) ∙ a.amounts i h;
  shut = λ i h c.
      let e : escrow K i ESCROW_STATE ≡ escrow L i ESCROW_STATE = a.shut i h c in
      b.shut i (omega arith) (subst (λ (x : ℕ). eqb x IS_OPEN ≡ false) (sym e) c) ∙ e;
}

-- ---- escrows end and receipts are closed: the header stays too

pub record Closes (L K : Ledger) : Type 0 where
  pub onward : Onward L K
  pub header : K.header ≡ L.header

pub closes_same : (L : Ledger) → Closes L L
closes_same L = record { onward = onward_same L; header = refl }

pub closes_then : {L K M : Ledger} → Closes L K → Closes K M → Closes L M
closes_then {L} {K} a b =
    let n : escrow_count L ≤ escrow_count K = subst (λ (t : List ℕ). escrow_count L ≤ get_or t ESCROWS 0) (sym a.header) (le_refl (escrow_count L)) in
    record { onward = onward_then n a.onward b.onward; header = b.header ∙ a.header }

-- an open escrow ends
pub closes_end : (state now signer i : ℕ) (L : Ledger) → 8 ≤ L.edition.escrow → eqb (escrow L i ESCROW_STATE) IS_OPEN ≡ true
    → Closes L (end_escrow state now signer i L)
unfolding end_escrow raise lower put_wallet put_escrow
closes_end state now signer i L wide open_i = record {
  onward = record {
    edition = refl;
    amounts = λ j h. shut_col L.escrows L.edition.escrow i ESCROW_STATE state ESCROW_CLOSED_AT now ESCROW_CLOSED_BY signer (omega arith)
        (omega arith) (omega arith) j ESCROW_AMOUNT (omega arith) (omega arith) (omega arith) (omega arith);
    shut = λ j h c. shut_row L.escrows L.edition.escrow i ESCROW_STATE state ESCROW_CLOSED_AT now ESCROW_CLOSED_BY signer (omega arith)
        (omega arith) (omega arith) j ESCROW_STATE (omega arith)
        (λ e. true≢false (sym open_i ∙ ap (λ (k : ℕ). eqb (escrow L k ESCROW_STATE) IS_OPEN) (sym e) ∙ c));
  };
  header = refl;
}

pub closes_receipt : (state now signer i : ℕ) (L : Ledger) → Closes L (close_receipt state now signer i L)
unfolding close_receipt put_receipt
closes_receipt state now signer i L = record { onward = onward_tables refl refl; header = refl }

pub closes_code : (i k v : ℕ) (L : Ledger) → Closes L (put_receipt i k v L)
unfolding put_receipt
closes_code i k v L = record { onward = onward_tables refl refl; header = refl }

-- closing a receipt leaves the escrows, so the one that it releases is still open
released : (state now signer i : ℕ) (L : Ledger) (k : ℕ) → 8 ≤ L.edition.escrow → eqb (escrow L k ESCROW_STATE) IS_OPEN ≡ true
    → Closes L (end_escrow state now signer k (close_receipt ACCEPTED now signer i L))
unfolding close_receipt put_receipt
released state now signer i L k wide h = closes_then (closes_receipt ACCEPTED now signer i L) (closes_end state now signer k _ wide h)

pub closes_accept : (now signer i : ℕ) (L : Ledger) → 8 ≤ L.edition.escrow → Closes L (accept_row now signer i L).after
unfolding accept_row
closes_accept now signer i L wide =
    let k : ℕ = receipt L i RECEIPT_LINK in
    let closed : Closes L (close_receipt ACCEPTED now signer i L) = closes_receipt ACCEPTED now signer i L in
    cond_case (λ (d : Done). Closes L d.after) (eqb k 0) _ _ (λ e. closed)
    (λ e. cond_case (λ (d : Done). Closes L d.after) (releasable L now (k - 1)) _ _
    (λ h. released _ now signer i L (k - 1) wide (and_fst (eqb (escrow L (k - 1) ESCROW_STATE) IS_OPEN) _ h))
    (λ h. closes_then closed (closes_code _ _ _ _)))

-- ---- the sweep

pub closes_due_receipt : (now i : ℕ) (L : Ledger) → 8 ≤ L.edition.escrow → Closes L (close_due_receipt now i L)
unfolding close_due_receipt
closes_due_receipt now i L wide =
    cond_case (Closes L) (eqb (receipt L i AUTO_ACCEPT) 1) _ _ (λ e. closes_accept _ _ _ L wide) (λ e. closes_receipt _ _ _ _ L)

pub closes_due_escrow : (now i : ℕ) (L : Ledger) → 8 ≤ L.edition.escrow → due_escrow L now i ≡ true → Closes L (close_due_escrow now i L)
unfolding close_due_escrow
closes_due_escrow now i L wide due = closes_end _ _ _ i L wide (and_fst (eqb (escrow L i ESCROW_STATE) IS_OPEN) _ due)

module _ (now : ℕ) (L : Ledger) (wide : 8 ≤ L.edition.escrow) where
  still_wide : {K : Ledger} → Closes L K → 8 ≤ K.edition.escrow
  still_wide a = subst (λ (e : Edition). 8 ≤ e.escrow) (sym a.onward.edition) wide

  receipt_turn : (i : ℕ) (s : Sweep) → Closes L s.tables → Closes L (sweep_receipt now i s).tables
  unfolding sweep_receipt
  receipt_turn i s a =
      cond_case (λ (z : Sweep). Closes L z.tables) (ltb 0 s.room && due_receipt s.tables now i) _ s
      (λ e. closes_then a (closes_due_receipt now i s.tables (still_wide a))) (λ e. a)

  escrow_turn : (i : ℕ) (s : Sweep) → Closes L s.tables → Closes L (sweep_escrow now i s).tables
  unfolding sweep_escrow
  escrow_turn i s a =
      cond_case (λ (z : Sweep). Closes L z.tables) (ltb 0 s.room && due_escrow s.tables now i) _ s
      (λ e. closes_then a (closes_due_escrow now i s.tables (still_wide a) (and_snd (ltb 0 s.room) _ e))) (λ e. a)

  pub closes_swept : (limit : ℕ) → Closes L (swept now limit L).tables
  unfolding swept swept_receipts
  closes_swept limit =
      loop_keeps (λ (s : Sweep). Closes L s.tables) (escrow_count L) (sweep_escrow now) (λ i l. escrow_turn i) _
      (loop_keeps (λ (s : Sweep). Closes L s.tables) (receipt_count L) (sweep_receipt now) (λ i l. receipt_turn i) (sweep_start limit L) (closes_same L))

-- ---- each operation

-- a wallet is made if it is missing: no other word of the header changes, and no escrow
pub record Beside (L K : Ledger) : Type 0 where
  pub edition : K.edition ≡ L.edition
  pub escrows : K.escrows ≡ L.escrows
  pub others : (k : ℕ) → k ≢ WALLETS → head K k ≡ head L k
  pub header : length K.header ≡ length L.header

pub made_beside : (id : ℕ) (L : Ledger) → Beside L (ensure_wallet id L)
unfolding ensure_wallet new_wallet put_head
made_beside id L =
    cond_case (Beside L) (has_wallet L id) L _
    (λ e. record { edition = refl; escrows = refl; others = λ k ne. refl; header = refl })
    (λ e. record {
      edition = refl;
      escrows = refl;
      others = λ k ne. get_or-set_other L.header WALLETS k (wallet_count L + 1) 0 ne;
      header = length-set L.header WALLETS (wallet_count L + 1);
    })

-- a new escrow goes behind those that are written
onward_open : (s : Submission) (L : Ledger) → 8 ≤ L.edition.escrow → Onward L (open_escrow s L).after
unfolding open_escrow raise lower put_wallet new_escrow put_head
onward_open s L wide =
    let K : Ledger = ensure_wallet s.target L in
    let m : Beside L K = made_beside s.target L in
    let n : escrow_count K ≡ escrow_count L = m.others ESCROWS (omega arith) in
    let K_wide : 8 ≤ K.edition.escrow = subst (λ (e : Edition). 8 ≤ e.escrow) (sym m.edition) wide in
    onward_then {K = K} (omega arith) (onward_tables m.edition m.escrows) (record {
      edition = refl;
      amounts = λ i h. word_old K.escrows K.edition.escrow (escrow_count K) i ESCROW_AMOUNT (escrow_of s) h (omega arith);
      shut = λ i h c. word_old K.escrows K.edition.escrow (escrow_count K) i ESCROW_STATE (escrow_of s) h (omega arith);
    })

module _ (L : Ledger) (r : Read) (z : answer_of L r ≡ 0) (form : Formed r.submission) (wide : 8 ≤ L.edition.escrow) where
  abbrev s : Submission
  s = r.submission

  -- an operation that makes a wallet, if it is missing, and leaves the escrows
  onward_made : (M : Ledger) → M.edition ≡ (ensure_wallet s.target L).edition → M.escrows ≡ (ensure_wallet s.target L).escrows → Onward L M
  onward_made M d t = let m = made_beside s.target L in onward_tables (d ∙ m.edition) (t ∙ m.escrows)

  onward_ended : (state : ℕ) → one_of closing s.op ≡ true → Onward L (end_escrow state s.now s.signer (s.target - 1) L)
  onward_ended state t = (closes_end state _ _ _ L wide (escrow_open L r z t)).onward

  onward_freeze : Onward L (freeze s L).after
  unfolding freeze put_head put_wallet
  onward_freeze = cond_case (Onward L) (eqb s.target 0) _ _ (λ e. onward_tables refl refl) (λ e. onward_tables refl refl)

  pub onward_operate : Onward L (operate s L).after
  unfolding operate_by grant transfer release refund claim accept dispute sweep caps close raise lower put_wallet put_head new_receipt
  onward_operate =
      by_op (λ (o : ℕ). Onward L (get_or operations (o - 1) idle s L).after) s.op form.low form.high form.not_8 (λ e. onward_made _ refl refl)
      (λ e. onward_made _ refl refl) (λ e. onward_open s L wide) (λ e. onward_ended _ (ap (one_of closing) e)) (λ e. onward_ended _ (ap (one_of closing) e))
      (λ e. onward_tables refl refl) (λ e. by_reply (λ (d : Done). Onward L d.after) s L (λ h. (closes_receipt _ _ _ _ L).onward) (λ h. (closes_accept _ _ _ L wide).onward))
      (λ e. (closes_swept _ L wide _).onward)
      (λ e. onward_freeze) (λ e. onward_tables refl refl) (λ e. onward_tables refl refl)

  pub onward_settle : Onward L (settle s L).after
  unfolding settle_by enter new_entry put_head
  onward_settle =
      let a = onward_operate in
      cond_case (Onward L) (eqb s.op SWEEP) _ _ (λ e. onward_beside {K = (operate s L).after} refl refl a) (λ e. onward_beside {K = (operate s L).after} refl refl a)

pub onward_submit : (L : Ledger) → ESCROW_LEN ≤ L.edition.escrow → HEADER_LEN ≤ L.edition.header → Ready L → (b : List ℕ) → Onward L (submit L b).left
onward_submit L wide header ready b =
    by_left (Onward L) L b
    (λ e. onward_settle L (read_of b) e (formed_says (read_of b).submission (read_formed b (settled L (read_of b) e).formed)) wide) (λ e. onward_same L)
