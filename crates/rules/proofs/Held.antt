-- What a submission does to the credits granted and held. Row by row: an escrow that was open is open, released, refunded or expired, with the
-- amount that it had, and one that was not open stays as it was (Onward). An open adds one row, open and with its amount; every other operation
-- keeps the count. Only a grant changes the granted total, by its amount.
use mathlib.Core.Path.{◌≡◌, refl, sym, ap, ap₂, ◌∙◌, subst, subst₃}
use mathlib.Core.Logic.{◌≢◌}
use mathlib.Core.List.{List, [], ◌∷◌}
use mathlib.Core.Bool.{Bool, true, false, cond, ◌&&◌}
use Prim.Native.Nat.{ℕ, zero, suc, ◌+◌, ◌-◌, ◌≤◌, ◌<◌}
use native.Mathlib.Omega.{arith}
use lib.ListN.{get_or, set, length}
use lib.Seq.{get_or-set_same, get_or-set_other}
use lib.Dec.{eqb, lit<}
use borrow.Author.Tests.{ne_eqb}
use Rattle.rules.specs.Limits.{HEADER_LEN, ESCROW_LEN, GRANT, OPEN, SWEEP, SYSTEM_FROZEN, CLOCK, GRANTED, ESCROWS, RECEIPTS, ENTRIES}
use Rattle.rules.specs.Limits.{ESCROW_AMOUNT, ESCROW_STATE, IS_OPEN, RELEASED, REFUNDED, EXPIRED}
use Rattle.rules.specs.Table.{word, rows_in, sum}
use Rattle.rules.specs.Ledger.{Edition, Ledger, Outcome, head, escrow, escrow_count, put_head, put_wallet, new_escrow, new_receipt, new_entry}
use Rattle.rules.specs.Record.{read_of}
use Rattle.rules.specs.Sound.{Ready}
use Rattle.rules.specs.Refusals.{one_of, closing}
use Rattle.rules.specs.Settle.{raise, lower, ensure_wallet, end_escrow, escrow_of, operations, idle, operate_by, operate, enter, settle_by, settle, Done}
use Rattle.rules.specs.Settle.{grant, transfer, open_escrow, release, refund, claim, accept, dispute, sweep, freeze, caps, close}
use Rattle.rules.specs.Submit.{answer_of, submit}
use Rattle.rules.specs.Report.{settled_of, ended_as}
use Rattle.rules.specs.Month.{held_by}
use Rattle.rules.specs.declared.Submission.{Submission}
use Rattle.rules.specs.declared.Read.{Read}
use Rattle.rules.proofs.Bools.{cond_case}
use Rattle.rules.proofs.Rows.{room, word_new}
use Rattle.rules.proofs.Counts.{sum_both, sum_step}
use Rattle.rules.proofs.Tests.{State, header_wide, sound_says}
use Rattle.rules.proofs.Formed.{Formed, formed_says, read_formed}
use Rattle.rules.proofs.Calls.{by_answer, settled, by_op, by_reply}
use Rattle.rules.proofs.Passed.{escrow_open, escrow_place}
use Rattle.rules.proofs.Ready.{ready_stays}
use Rattle.rules.proofs.Onward.{Onward, onward_submit, Closes, closes_end, closes_receipt, closes_accept, closes_swept, Beside, made_beside}

-- ---- the rows that were written

-- what escrow i holds, and what it gave up if it ended in this state: the texts of `held_by` and `ended_as`
abbrev held_at : Ledger → ℕ → ℕ
held_at L i = cond (eqb (escrow L i ESCROW_STATE) IS_OPEN) (escrow L i ESCROW_AMOUNT) 0

abbrev ended_at : ℕ → Ledger → Ledger → ℕ → ℕ
ended_at state L M i = cond (eqb (escrow L i ESCROW_STATE) IS_OPEN && eqb (escrow M i ESCROW_STATE) state) (escrow L i ESCROW_AMOUNT) 0

-- the credits of escrows that ended, in whichever state
abbrev ended : Ledger → Ledger → ℕ
ended L M = ended_as RELEASED L M + ended_as REFUNDED L M + ended_as EXPIRED L M

-- an amount is that of one of the four states
one_of_four : (x a : ℕ) → State x
    → a ≡ cond (eqb x IS_OPEN) a 0 + (cond (eqb x RELEASED) a 0 + cond (eqb x REFUNDED) a 0 + cond (eqb x EXPIRED) a 0)
one_of_four zero a s = absurd (omega (arith, s.0))
one_of_four (suc zero) a s = omega arith
one_of_four (suc (suc zero)) a s = omega arith
one_of_four (suc (suc (suc zero))) a s = omega arith
one_of_four (suc (suc (suc (suc zero)))) a s = omega arith
one_of_four (suc (suc (suc (suc (suc x))))) a s = absurd (omega (arith, s.1))

module _ (L M : Ledger) (on : Onward L M) (states : (i : ℕ) → i < escrow_count L → State (escrow M i ESCROW_STATE)) where
  -- an escrow that was open is so, or has ended in one of the three; one that was not open counts nowhere
  row_ends : (i : ℕ) → i < escrow_count L → held_at L i ≡ held_at M i + (ended_at RELEASED L M i + ended_at REFUNDED L M i + ended_at EXPIRED L M i)
  row_ends i h = go (eqb (escrow L i ESCROW_STATE) IS_OPEN) refl
    where
      x : ℕ
      x = escrow M i ESCROW_STATE

      a : ℕ
      a = escrow L i ESCROW_AMOUNT

      go : (b : Bool) → eqb (escrow L i ESCROW_STATE) IS_OPEN ≡ b
          → cond b a 0 ≡ held_at M i + (cond (b && eqb x RELEASED) a 0 + cond (b && eqb x REFUNDED) a 0 + cond (b && eqb x EXPIRED) a 0)
      go true e =
          let held : held_at M i ≡ cond (eqb x IS_OPEN) a 0 = ap (λ (y : ℕ). cond (eqb x IS_OPEN) y 0) (on.amounts i h) in
          omega (arith, one_of_four x a (states i h))
      go false e =
          let none : held_at M i ≡ 0 = ap (λ (c : Bool). cond c (escrow M i ESCROW_AMOUNT) 0) (ap (λ (y : ℕ). eqb y IS_OPEN) (on.shut i h e) ∙ e) in
          omega arith

  held_rows : held_by L ≡ sum (escrow_count L) (held_at M) + ended L M
  unfolding held_by ended_as
  held_rows =
      let n : ℕ = escrow_count L in
      let f : (state i : ℕ) → ℕ = λ state i. ended_at state L M i in
      let two : sum n (λ i. f RELEASED i + f REFUNDED i) ≡ sum n (f RELEASED) + sum n (f REFUNDED) = sum_both n _ (f RELEASED) (f REFUNDED) (λ i l. refl) in
      let three : sum n (λ i. f RELEASED i + f REFUNDED i + f EXPIRED i) ≡ sum n (λ i. f RELEASED i + f REFUNDED i) + sum n (f EXPIRED) =
      sum_both n _ (λ i. f RELEASED i + f REFUNDED i) (f EXPIRED) (λ i l. refl) in
      let all : sum n (held_at L) ≡ sum n (held_at M) + sum n (λ i. f RELEASED i + f REFUNDED i + f EXPIRED i) =
      sum_both n (held_at L) (held_at M) (λ i. f RELEASED i + f REFUNDED i + f EXPIRED i) row_ends in
      omega arith

-- ---- what is granted, and the rows that are new

-- M has this much more granted, and its new escrows hold this much
record Adds (granted opened : ℕ) (L M : Ledger) : Type 0 where
  total : head M GRANTED ≡ head L GRANTED + granted
  count : escrow_count L ≤ escrow_count M
  held : held_by M ≡ sum (escrow_count L) (held_at M) + opened

-- the count stays
adds_total : {granted : ℕ} {L M : Ledger} → head M GRANTED ≡ head L GRANTED + granted → escrow_count M ≡ escrow_count L → Adds granted 0 L M
unfolding held_by
adds_total {L = L} {M} g n = record { total = g; count = omega arith; held = let e = ap (λ (k : ℕ). sum k (held_at M)) n in omega arith }

-- and the total
adds_nothing : {L M : Ledger} → head M GRANTED ≡ head L GRANTED → escrow_count M ≡ escrow_count L → Adds 0 0 L M
adds_nothing g n = adds_total (omega arith) n

adds_closed : {L M : Ledger} → Closes L M → Adds 0 0 L M
adds_closed a = adds_nothing (ap (λ (t : List ℕ). get_or t GRANTED 0) a.header) (ap (λ (t : List ℕ). get_or t ESCROWS 0) a.header)

-- one more row
adds_row : {a : ℕ} {L M : Ledger} (n : ℕ) → head M GRANTED ≡ head L GRANTED → n ≡ escrow_count L → escrow_count M ≡ n + 1 → held_at M n ≡ a → Adds 0 a L M
unfolding held_by
adds_row {L = L} {M} n g from to new = record {
  total = omega arith;
  count = omega arith;
  held =
      let before : sum n (held_at M) ≡ sum (escrow_count L) (held_at M) = ap (λ (k : ℕ). sum k (held_at M)) from in
      let after : sum (escrow_count M) (held_at M) ≡ sum (n + 1) (held_at M) = ap (λ (k : ℕ). sum k (held_at M)) to in
      omega (arith, sum_step n (held_at M));
}

-- other words beside them
adds_beside : {granted opened : ℕ} {L K M : Ledger} → M.edition ≡ K.edition → M.escrows ≡ K.escrows → head M GRANTED ≡ head K GRANTED
    → escrow_count M ≡ escrow_count K → Adds granted opened L K → Adds granted opened L M
unfolding held_by
adds_beside {opened = opened} {L} {K} {M} d t g n a =
    let rows : held_at M ≡ held_at K = λ j i. cond (eqb (word (t j) (d j).escrow i ESCROW_STATE) IS_OPEN) (word (t j) (d j).escrow i ESCROW_AMOUNT) 0 in
    record {
      total = g ∙ a.total;
      count = omega (arith, a.count);
      held = ap₂ sum n rows ∙ a.held ∙ ap (λ (f : ℕ → ℕ). sum (escrow_count L) f + opened) (sym rows);
    }

module _ (L : Ledger) (r : Read) (z : answer_of L r ≡ 0) (form : Formed r.submission) (wide : 8 ≤ L.edition.escrow) (head_wide : 8 ≤ length L.header) where
  abbrev s : Submission
  s = r.submission

  K : Ledger
  K = ensure_wallet s.target L

  m : Beside L K
  unfolding K
  m = made_beside s.target L

  adds_grant : Adds s.amount 0 L (grant s L).after
  unfolding grant raise put_wallet put_head K
  adds_grant =
      adds_total (get_or-set_same K.header GRANTED _ 0 (omega (arith, m.header, head_wide)))
      (get_or-set_other K.header GRANTED ESCROWS _ 0 (omega arith) ∙ m.others ESCROWS (omega arith))

  -- the row of the escrow that is opened
  opened : (k : ℕ) → s.op ≡ OPEN → k < 8 → escrow (open_escrow s L).after (escrow_count K) k ≡ get_or (escrow_of s) k 0
  unfolding open_escrow raise lower put_wallet new_escrow put_head K
  opened k e k< =
      let place : escrow_count K < rows_in K.edition.escrow K.escrows =
      subst₃ (λ (d : Edition) (n : ℕ) (l : List ℕ). n < rows_in d.escrow l) (sym m.edition) (sym (m.others ESCROWS (omega arith))) (sym m.escrows)
      (escrow_place L r z (ap (one_of (OPEN ∷ [])) e)) in
      let wide_K : 8 ≤ K.edition.escrow = subst (λ (d : Edition). 8 ≤ d.escrow) (sym m.edition) wide in
      word_new K.escrows K.edition.escrow (escrow_count K) k (escrow_of s) (omega (arith, room K.edition.escrow (escrow_count K) K.escrows place)) k<

  adds_open : s.op ≡ OPEN → Adds 0 s.amount L (open_escrow s L).after
  unfolding open_escrow raise lower put_wallet new_escrow put_head K
  adds_open e =
      adds_row (escrow_count K) (get_or-set_other K.header ESCROWS GRANTED _ 0 (omega arith) ∙ m.others GRANTED (omega arith)) (m.others ESCROWS (omega arith))
      (get_or-set_same K.header ESCROWS _ 0 (omega (arith, m.header, head_wide)))
      (ap₂ (λ (state amount : ℕ). cond (eqb state IS_OPEN) amount 0) (opened ESCROW_STATE e (lit< tt)) (opened ESCROW_AMOUNT e (lit< tt)))

  adds_transfer : Adds 0 0 L (transfer s L).after
  unfolding transfer raise lower put_wallet K
  adds_transfer = adds_nothing (m.others GRANTED (omega arith)) (m.others ESCROWS (omega arith))

  adds_claim : Adds 0 0 L (claim s L).after
  unfolding claim new_receipt put_head
  adds_claim = adds_nothing (get_or-set_other L.header RECEIPTS GRANTED _ 0 (omega arith)) (get_or-set_other L.header RECEIPTS ESCROWS _ 0 (omega arith))

  adds_freeze : Adds 0 0 L (freeze s L).after
  unfolding freeze put_head put_wallet
  adds_freeze =
      cond_case (Adds 0 0 L) (eqb s.target 0) _ _
      (λ e. adds_nothing (get_or-set_other L.header SYSTEM_FROZEN GRANTED _ 0 (omega arith)) (get_or-set_other L.header SYSTEM_FROZEN ESCROWS _ 0 (omega arith)))
      (λ e. adds_nothing refl refl)

  adds_end : one_of closing s.op ≡ true → (state : ℕ) → Adds 0 0 L (end_escrow state s.now s.signer (s.target - 1) L)
  adds_end t state = adds_closed (closes_end state _ _ _ L wide (escrow_open L r z t))

  adds_operate : Adds (settled_of GRANT s 0) (settled_of OPEN s 0) L (operate s L).after
  unfolding operate_by release refund accept dispute sweep caps close put_wallet
  adds_operate =
      by_op (λ (o : ℕ). Adds (cond (eqb o GRANT) s.amount 0) (cond (eqb o OPEN) s.amount 0) L (get_or operations (o - 1) idle s L).after) s.op
      form.low form.high form.not_8 (λ e. adds_grant) (λ e. adds_transfer) adds_open (λ e. adds_end (ap (one_of closing) e) _) (λ e. adds_end (ap (one_of closing) e) _)
      (λ e. adds_claim)
      (λ e. by_reply (λ (d : Done). Adds 0 0 L d.after) s L (λ h. adds_closed (closes_receipt _ _ _ _ L)) (λ h. adds_closed (closes_accept _ _ _ L wide)))
      (λ e. adds_closed (closes_swept _ L wide _)) (λ e. adds_freeze) (λ e. adds_nothing refl refl) (λ e. adds_nothing refl refl)

  -- the clock and the journal
  adds_settle : Adds (settled_of GRANT s 0) (settled_of OPEN s 0) L (settle s L).after
  unfolding settle_by enter new_entry put_head
  adds_settle =
      let done : Ledger = (operate s L).after in
      let h : List ℕ = set done.header CLOCK s.now in
      let clock : (k : ℕ) → k ≢ CLOCK → get_or h k 0 ≡ head done k = λ k ne. get_or-set_other done.header CLOCK k s.now 0 ne in
      cond_case (Adds (settled_of GRANT s 0) (settled_of OPEN s 0) L) (eqb s.op SWEEP) _ _
      (λ e. adds_beside refl refl (clock GRANTED (omega arith)) (clock ESCROWS (omega arith)) adds_operate)
      (λ e. adds_beside refl refl (get_or-set_other h ENTRIES GRANTED _ 0 (omega arith) ∙ clock GRANTED (omega arith))
      (get_or-set_other h ENTRIES ESCROWS _ 0 (omega arith) ∙ clock ESCROWS (omega arith)) adds_operate)

-- ---- a submission

module _ (L : Ledger) (header : HEADER_LEN ≤ L.edition.header) (wide : ESCROW_LEN ≤ L.edition.escrow) (ready : Ready L) (b : List ℕ) where
  adds_submit : Adds (settled_of GRANT (read_of b).submission (submit L b).number) (settled_of OPEN (read_of b).submission (submit L b).number) L (submit L b).left
  adds_submit =
      by_answer (λ (o : Outcome). Adds (settled_of GRANT (read_of b).submission o.number) (settled_of OPEN (read_of b).submission o.number) L o.left) L b
      (λ e. adds_settle L (read_of b) e (formed_says (read_of b).submission (read_formed b (settled L (read_of b) e).formed)) wide (header_wide L ready.lengths header))
      (λ ne. rw (ne_eqb (answer_of L (read_of b)) 0 ne) (adds_nothing refl refl))

  pub granted_submit : head (submit L b).left GRANTED ≡ head L GRANTED + settled_of GRANT (read_of b).submission (submit L b).number
  granted_submit = adds_submit.total

  pub held_submit :
      held_by L + settled_of OPEN (read_of b).submission (submit L b).number ≡ held_by (submit L b).left
      + (ended_as RELEASED L (submit L b).left + ended_as REFUNDED L (submit L b).left + ended_as EXPIRED L (submit L b).left)
  held_submit =
      let M : Ledger = (submit L b).left in
      let a = adds_submit in
      let right = sound_says M (ready_stays L header wide ready b).sound in
      let rows = held_rows L M (onward_submit L wide header ready b) (λ i l. (right.escrows i (omega (arith, a.count))).own.state) in
      omega (arith, a.held)
