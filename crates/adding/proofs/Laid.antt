-- One receipt of a sweep, laid out on the tables as they were before: the sweep's own tables differ from those in the states of the escrows that
-- are marked, which were open and are released now, and in the receipts that it has passed. So what the next receipt does is known from the old
-- tables and the marks: whether it is due, and whether it releases its escrow.
use mathlib.Core.Path.{◌≡◌, refl, sym, ap, ap₂, ◌∙◌, subst}
use mathlib.Core.List.{List}
use mathlib.Core.Bool.{Bool, true, false, not, cond, ◌&&◌}
use Prim.Native.Nat.{ℕ, ◌+◌, ◌-◌, ◌≤◌, ◌<◌}
use native.Mathlib.Nat.{le_refl}
use native.Mathlib.Decide.{ℕ_discrete}
use native.Mathlib.Omega.{arith}
use lib.ListN.{get_or, set, length}
use lib.Seq.{get_or-set_same, get_or-set_other}
use lib.Dec.{eqb, ltb, lit<}
use borrow.Author.Tests.{lt-ltb, eqb-false}
use Rattle.std.specs.Prelude.{Option, Some, None}
use Rattle.rules.specs.Limits.{LAST_TIME_MS, ESCROWS, RECEIPTS, IS_OPEN, RELEASED, REFUNDED, EXPIRED, ESCROW_AMOUNT, ESCROW_DEADLINE, ESCROW_STATE}
use Rattle.rules.specs.Limits.{RECEIPT_LINK, AUTO_ACCEPT, RECEIPT_STATE}
use Rattle.rules.specs.Table.{word}
use Rattle.rules.specs.Ledger.{Ledger, escrow, receipt, escrow_count, receipt_count}
use Rattle.rules.specs.declared.Edition.{Edition}
use Rattle.rules.specs.Settle.{Sweep, one_more, sweep_start, due_receipt, end_escrow, close_due_receipt, sweep_receipt}
use Rattle.rules.specs.Report.{ended_as}
use Rattle.rules.proofs.Bools.{and_intro, and_fst, and_snd, and_none_snd, not_true_false, cond_case}
use Rattle.rules.proofs.Moves.{and_true, and_false}
use Rattle.rules.proofs.Good.{Good}
use Rattle.rules.proofs.Keeps.{keeps_end}
use Rattle.rules.proofs.Stays.{kept_start, kept_then, row_kept, link_row, kept_due_receipt}
use Rattle.rules.proofs.SweepPlan.{leaves_due}
use Rattle.rules.proofs.Onward.{Closes, onward_same, onward_then, closes_due_receipt}
use Rattle.rules.proofs.Ended.{ended_none, ended_beside, ended_then, ended_end, end_other, end_word, end_state, releases, due_escrows, due_early}
use Rattle.adding.proofs.Counted.{rows_of, amount_of}
use Rattle.adding.specs.Turns.{frees_now, freed_now, marked_now, closed_turn, closed_marks, Ended, Receipted}

-- `number` receipts of L are passed
pub record Laid (L : Ledger) (time : ℕ) (marks : List Bool) (number room amount : ℕ) (S : Sweep) : Type 0 where
  pub receipted : Receipted L time room amount S
  pub states : (i : ℕ) → eqb (escrow S.tables i ESCROW_STATE) IS_OPEN ≡ (eqb (escrow L i ESCROW_STATE) IS_OPEN && not (get_or marks i false))
  pub deadlines : (i : ℕ) → escrow S.tables i ESCROW_DEADLINE ≡ escrow L i ESCROW_DEADLINE
  pub early : (j k : ℕ) → k < RECEIPT_STATE → receipt S.tables j k ≡ receipt L j k
  pub dues : (j : ℕ) → number ≤ j → due_receipt S.tables time j ≡ due_receipt L time j

-- nothing has ended where nothing has changed
pub ended_start : (L : Ledger) → Good L → Ended L 0 0 L
ended_start L g = record {
  kept = kept_start L g;
  onward = onward_same L;
  released = ended_none RELEASED L L refl (λ i l. refl);
  refunded = ended_none REFUNDED L L refl (λ i l. refl);
  expired = ended_none EXPIRED L L refl (λ i l. refl);
}

pub laid_start : (L : Ledger) (time limit : ℕ) (marks : List Bool) → Good L → ((i : ℕ) → get_or marks i false ≡ false) → Laid L time marks 0 limit 0 (sweep_start limit L)
laid_start L time limit marks g none = record {
  receipted = record { room = refl; due = λ i. refl; ended = ended_start L g };
  states = λ i.
      sym (ap (λ (k : Bool). eqb (escrow L i ESCROW_STATE) IS_OPEN && not k) (none i) ∙ and_true (eqb (escrow L i ESCROW_STATE) IS_OPEN));
  deadlines = λ i. refl;
  early = λ j k h. refl;
  dues = λ j h. refl;
}

module _ (L : Ledger) (time : ℕ) (now_right : time ≤ LAST_TIME_MS) (marks : List Bool) (number room amount : ℕ) (S : Sweep)
    (good : Good L) (places : escrow_count L ≤ length marks) (l : number < receipt_count L) (a : Laid L time marks number room amount S) where
  abbrev M : Ledger
  M = S.tables

  abbrev N : Ledger
  N = close_due_receipt time number M

  -- the row of its escrow, and whether it is released
  abbrev k : ℕ
  k = receipt L number RECEIPT_LINK - 1

  abbrev b : Bool
  b = frees_now L.edition L.escrows L.receipts marks time number

  link : receipt M number RECEIPT_LINK ≡ receipt L number RECEIPT_LINK
  link = a.early number RECEIPT_LINK (lit< tt)

  frees : (eqb (receipt M number AUTO_ACCEPT) 1 && releases M time number) ≡ b
  frees = rw (a.early number AUTO_ACCEPT (lit< tt), link, a.states k, a.deadlines k)

  -- an escrow that is released has its row
  k_row : b ≡ true → k < escrow_count L
  k_row t =
      let n : ℕ = receipt L number RECEIPT_LINK in
      link_row L good number l
      (eqb-false n 0 (not_true_false (eqb n 0) (and_fst (not (eqb n 0)) _ (and_snd (eqb (receipt L number AUTO_ACCEPT) 1) _ t))))

  closes : Closes M N
  closes = closes_due_receipt time number M a.receipted.ended.kept.good.wide

  escrows_so : N.escrows ≡ (cond b (end_escrow RELEASED time 0 k M) M).escrows
  escrows_so =
      due_escrows time number M
      ∙ ap₂ (λ (c : Bool) (n : ℕ). (cond c (end_escrow RELEASED time 0 (n - 1) M) M).escrows) frees link

  -- the edition of the sweep's tables is that of L
  len_so : N.edition.escrow ≡ M.edition.escrow
  len_so = ap (λ (e : Edition). e.escrow) closes.onward.edition

  -- a word of an escrow, where one is released, and where none is
  word_ended : b ≡ true → (j c : ℕ) → escrow N j c ≡ escrow (end_escrow RELEASED time 0 k M) j c
  word_ended t j c =
      ap₂ (λ (e : List ℕ) (n : ℕ). word e n j c) (escrows_so ∙ ap (λ (d : Bool). (cond d (end_escrow RELEASED time 0 k M) M).escrows) t)
      (len_so ∙ sym (ap (λ (e : Edition). e.escrow) (keeps_end RELEASED time 0 k M).lengths.edition))

  word_left : b ≡ false → (j c : ℕ) → escrow N j c ≡ escrow M j c
  word_left t j c =
      ap₂ (λ (e : List ℕ) (n : ℕ). word e n j c) (escrows_so ∙ ap (λ (d : Bool). (cond d (end_escrow RELEASED time 0 k M) M).escrows) t) len_so

  m_wide : 8 ≤ M.edition.escrow
  m_wide = a.receipted.ended.kept.good.wide

  states_so : (marks₁ : List Bool) → marks₁ ≡ cond b (set marks k true) marks
      → (i : ℕ) → eqb (escrow N i ESCROW_STATE) IS_OPEN ≡ (eqb (escrow L i ESCROW_STATE) IS_OPEN && not (get_or marks₁ i false))
  states_so marks₁ e i = go b refl (ℕ_discrete i k)
    where
      by_marks : (c : Bool) → b ≡ c → (x : Bool) → get_or (cond c (set marks k true) marks) i false ≡ x
          → eqb (escrow N i ESCROW_STATE) IS_OPEN ≡ (eqb (escrow L i ESCROW_STATE) IS_OPEN && not x)
          → eqb (escrow N i ESCROW_STATE) IS_OPEN ≡ (eqb (escrow L i ESCROW_STATE) IS_OPEN && not (get_or marks₁ i false))
      by_marks c t x q h =
          h ∙ ap (λ (n : Bool). eqb (escrow L i ESCROW_STATE) IS_OPEN && not n)
          (sym (ap (λ (m : List Bool). get_or m i false) (e ∙ ap (λ (d : Bool). cond d (set marks k true) marks) t) ∙ q))

      go : (c : Bool) → b ≡ c → Dec (i ≡ k) → eqb (escrow N i ESCROW_STATE) IS_OPEN ≡ (eqb (escrow L i ESCROW_STATE) IS_OPEN && not (get_or marks₁ i false))
      go false t d = by_marks false t (get_or marks i false) refl (ap (λ (x : ℕ). eqb x IS_OPEN) (word_left t i ESCROW_STATE) ∙ a.states i)
      go true t (no ne) =
          by_marks true t (get_or marks i false) (get_or-set_other marks k i true false ne)
          (ap (λ (x : ℕ). eqb x IS_OPEN) (word_ended t i ESCROW_STATE ∙ end_other RELEASED time 0 k M m_wide i ESCROW_STATE (lit< tt) ne) ∙ a.states i)
      go true t (yes y) =
          by_marks true t true (ap (λ (j : ℕ). get_or (set marks k true) j false) y ∙ get_or-set_same marks k true false (omega (arith, k_row t)))
          (ap (λ (x : ℕ). eqb x IS_OPEN)
          (word_ended t i ESCROW_STATE ∙ ap (λ (j : ℕ). escrow (end_escrow RELEASED time 0 k M) j ESCROW_STATE) y
          ∙ end_state RELEASED time 0 k M a.receipted.ended.kept.good (row_kept ESCROWS a.receipted.ended.kept (k_row t)))
          ∙ sym (and_false (eqb (escrow L i ESCROW_STATE) IS_OPEN)))

  deadlines_so : (i : ℕ) → escrow N i ESCROW_DEADLINE ≡ escrow L i ESCROW_DEADLINE
  deadlines_so i = go b refl
    where
      go : (c : Bool) → b ≡ c → escrow N i ESCROW_DEADLINE ≡ escrow L i ESCROW_DEADLINE
      go false t = word_left t i ESCROW_DEADLINE ∙ a.deadlines i
      go true t = word_ended t i ESCROW_DEADLINE ∙ end_word RELEASED time 0 k M m_wide i ESCROW_DEADLINE (lit< tt) ∙ a.deadlines i

  -- what this receipt ends
  ended_here : (st : ℕ) → eqb IS_OPEN st ≡ false → ended_as st M N ≡ cond b (cond (eqb RELEASED st) (escrow L k ESCROW_AMOUNT) 0) 0
  ended_here st other = go b refl
    where
      go : (c : Bool) → b ≡ c → ended_as st M N ≡ cond c (cond (eqb RELEASED st) (escrow L k ESCROW_AMOUNT) 0) 0
      go false t = ended_none st M N other (λ i h. word_left t i ESCROW_STATE)
      go true t =
          let K : Ledger = end_escrow RELEASED time 0 k M in
          let so = and_snd (not (eqb (receipt L number RECEIPT_LINK) 0)) _ (and_snd (eqb (receipt L number AUTO_ACCEPT) 1) _ t) in
          let open_k = a.states k ∙ and_fst (eqb (escrow L k ESCROW_STATE) IS_OPEN && not (get_or marks k false)) _ so in
          ended_beside st M K N (closes.onward.edition ∙ sym (keeps_end RELEASED time 0 k M).lengths.edition)
          (escrows_so ∙ ap (λ (d : Bool). (cond d K M).escrows) t)
          ∙ ended_end st RELEASED time 0 k M other a.receipted.ended.kept.good (row_kept ESCROWS a.receipted.ended.kept (k_row t)) open_k
          ∙ ap (λ (n : ℕ). cond (eqb RELEASED st) n 0) (a.receipted.ended.onward.amounts k (k_row t))

  count_so : escrow_count M ≡ escrow_count L
  count_so = ap (λ (t : List ℕ). get_or t ESCROWS 0) a.receipted.ended.kept.header

  ended_so : (y : ℕ) → y ≡ cond b (escrow L k ESCROW_AMOUNT) 0 → Ended L (amount + y) 0 N
  ended_so y e =
      let was = a.receipted.ended in
      let then : (st : ℕ) → eqb IS_OPEN st ≡ false → ended_as st L N ≡ ended_as st L M + cond b (cond (eqb RELEASED st) (escrow L k ESCROW_AMOUNT) 0) 0 =
      λ st other. ended_then st L M N other count_so was.onward closes.onward ∙ ap (λ (n : ℕ). ended_as st L M + n) (ended_here st other) in
      let nothing : ◌≡◌ {A = ℕ} (cond b 0 0) 0 = cond_case (λ (n : ℕ). n ≡ 0) b 0 0 (λ _. refl) (λ _. refl) in
      record {
        kept = kept_then was.kept (kept_due_receipt L time now_right M was.kept.good number (row_kept RECEIPTS was.kept l));
        onward = onward_then (omega (arith, count_so)) was.onward closes.onward;
        released = then RELEASED refl ∙ ap₂ ◌+◌ was.released (sym e);
        refunded = then REFUNDED refl ∙ ap₂ ◌+◌ was.refunded nothing;
        expired = then EXPIRED refl ∙ ap₂ ◌+◌ was.expired nothing;
      }

  -- it is due, and closed; or passed over
  laid_closed : (marks₁ : List Bool) (x y : ℕ) → marks₁ ≡ cond b (set marks k true) marks → x ≡ 1 → y ≡ cond b (escrow L k ESCROW_AMOUNT) 0
      → Laid L time marks₁ (number + 1) (room - x) (amount + y) (one_more S N)
  laid_closed marks₁ x y m one e =
      let leaves = leaves_due time number M m_wide in
      record {
        receipted = record { room = omega (arith, a.receipted.room); due = λ i. leaves.escrows i ∙ a.receipted.due i; ended = ended_so y e };
        states = states_so marks₁ m;
        deadlines = deadlines_so;
        early = λ j c h. due_early time number M j c h ∙ a.early j c h;
        dues = λ j h. leaves.others j (omega arith) ∙ a.dues j (omega arith);
      }

  laid_passed : (marks₁ : List Bool) (x y : ℕ) → marks₁ ≡ marks → x ≡ 0 → y ≡ 0 → Laid L time marks₁ (number + 1) (room - x) (amount + y) S
  laid_passed marks₁ x y m none e = record {
    receipted = record {
      room = omega (arith, a.receipted.room);
      due = a.receipted.due;
      ended = let z : amount ≡ amount + y = omega arith in subst (λ (n : ℕ). Ended L n 0 S.tables) z a.receipted.ended;
    };
    states = λ i. a.states i ∙ ap (λ (t : List Bool). eqb (escrow L i ESCROW_STATE) IS_OPEN && not (get_or t i false)) (sym m);
    deadlines = a.deadlines;
    early = a.early;
    dues = λ j h. a.dues j (omega arith);
  }

  -- THE TURN of a sweep that may still close a row
  pub laid_turn : (marks₁ : List Bool) (o : Option ℕ) → 0 < room
      → o ≡ closed_turn L.edition L.escrows L.receipts marks time number
      → marks₁ ≡ closed_marks L.edition L.escrows L.receipts marks time number
      → Laid L time marks₁ (number + 1) (room - rows_of o) (amount + amount_of o) (sweep_receipt time number S)
  unfolding sweep_receipt closed_turn closed_marks freed_now marked_now
  laid_turn marks₁ o some p m = go (due_receipt L time number) refl p m
    where
      T : Sweep → Type 0
      T = Laid L time marks₁ (number + 1) (room - rows_of o) (amount + amount_of o)

      go : (c : Bool) → due_receipt L time number ≡ c → o ≡ cond c (Some (cond b (escrow L k ESCROW_AMOUNT) 0)) None
          → marks₁ ≡ cond c (cond b (set marks k true) marks) marks → T (cond (ltb 0 S.room && due_receipt M time number) (one_more S N) S)
      go true t p m =
          let here : (ltb 0 S.room && due_receipt M time number) ≡ true =
          and_intro _ _ (lt-ltb 0 S.room (omega (arith, a.receipted.room))) (a.dues number (le_refl number) ∙ t) in
          subst (λ (d : Bool). T (cond d (one_more S N) S)) (sym here) (laid_closed marks₁ (rows_of o) (amount_of o) m (ap rows_of p) (ap amount_of p))
      go false t p m =
          let here : (ltb 0 S.room && due_receipt M time number) ≡ false =
          and_none_snd (ltb 0 S.room) (due_receipt M time number) (a.dues number (le_refl number) ∙ t) in
          subst (λ (d : Bool). T (cond d (one_more S N) S)) (sym here) (laid_passed marks₁ (rows_of o) (amount_of o) m (ap rows_of p) (ap amount_of p))
