-- The amounts of the escrows that ended in a state, as the month's report counts them (`ended_as`): none where the states stay, the amount of an
-- escrow that ends, and over two stretches the sum of both, since amounts stay and what is not open stays in its state. An accept, and the
-- closing of a due receipt, leave of the escrows what the end of one leaves, or nothing new.
use mathlib.Core.Path.{◌≡◌, refl, sym, ap, ap₂, ◌∙◌}
use mathlib.Core.Logic.{◌≢◌}
use mathlib.Core.Bool.{Bool, true, false, not, cond, ◌&&◌, true≢false}
use Prim.Native.Nat.{ℕ, ◌+◌, ◌-◌, ◌≤◌, ◌<◌}
use native.Mathlib.Omega.{arith}
use lib.Dec.{eqb, lit<}
use borrow.Author.Tests.{eqb-true}
use Rattle.rules.specs.Limits.{ESCROW_AMOUNT, ESCROW_STATE, ESCROW_CLOSED_AT, ESCROW_CLOSED_BY, IS_OPEN, RELEASED}
use Rattle.rules.specs.Limits.{RECEIPT_LEN, RECEIPT_STATE, RECEIPT_CLOSED_AT, RECEIPT_CLOSED_BY}
use Rattle.rules.specs.Limits.{RECEIPT_LINK, AUTO_ACCEPT, RELEASE_CODE, RELEASE_IMPOSSIBLE, ACCEPTED, LAPSED}
use Rattle.rules.specs.Table.{word, sum}
use Rattle.rules.specs.Ledger.{Ledger, escrow, receipt, escrow_count, put_wallet, put_escrow, put_receipt}
use Rattle.rules.specs.Refusals.{releasable}
use Rattle.rules.specs.Settle.{Done, done, raise, lower, end_escrow, close_receipt, accept_row, close_due_receipt}
use Rattle.rules.specs.Report.{ended_as}
use Rattle.rules.proofs.Bools.{cond_case}
use Rattle.rules.proofs.Rows.{rows_fit, in_table, word_col}
use Rattle.rules.proofs.Counts.{sum_zero, sum_both, sum_change}
use Rattle.rules.proofs.Moves.{shut_col, shut_row, shut_same}
use Rattle.rules.proofs.Good.{Good}
use Rattle.rules.proofs.Onward.{Onward}

-- ---- one escrow: in state a before and c after, with amount A

one_none : (st a c A : ℕ) → eqb IS_OPEN st ≡ false → c ≡ a → cond (eqb a IS_OPEN && eqb c st) A 0 ≡ 0
one_none st a c A other e = go (eqb a IS_OPEN) refl
  where
    go : (b : Bool) → eqb a IS_OPEN ≡ b → cond (b && eqb c st) A 0 ≡ 0
    go false x = refl
    go true x = ap (λ (t : Bool). cond t A 0) (ap (λ (k : ℕ). eqb k st) (e ∙ eqb-true a IS_OPEN x) ∙ other)

-- in state b between, with amount B
one_then : (st a b c A B : ℕ) → eqb IS_OPEN st ≡ false → B ≡ A → (eqb a IS_OPEN ≡ false → b ≡ a) → (eqb b IS_OPEN ≡ false → c ≡ b)
    → cond (eqb a IS_OPEN && eqb c st) A 0 ≡ cond (eqb a IS_OPEN && eqb b st) A 0 + cond (eqb b IS_OPEN && eqb c st) B 0
one_then st a b c A B other same shut_a shut_b = go (eqb a IS_OPEN) (eqb b IS_OPEN) refl refl
  where
    go : (x y : Bool) → eqb a IS_OPEN ≡ x → eqb b IS_OPEN ≡ y → cond (x && eqb c st) A 0 ≡ cond (x && eqb b st) A 0 + cond (y && eqb c st) B 0
    go true true p q =
        let z : cond (eqb b st) A 0 ≡ 0 = ap (λ (t : Bool). cond t A 0) (ap (λ (k : ℕ). eqb k st) (eqb-true b IS_OPEN q) ∙ other) in
        let e : cond (eqb c st) B 0 ≡ cond (eqb c st) A 0 = ap (λ (k : ℕ). cond (eqb c st) k 0) same in
        omega arith
    go true false p q = let e : cond (eqb c st) A 0 ≡ cond (eqb b st) A 0 = ap (λ (k : ℕ). cond (eqb k st) A 0) (shut_b q) in omega arith
    go false true p q = absurd (true≢false (sym q ∙ ap (λ (k : ℕ). eqb k IS_OPEN) (shut_a p) ∙ p))
    go false false p q = refl

-- ---- all of them

abbrev at : ℕ → Ledger → Ledger → ℕ → ℕ
at st L M i = cond (eqb (escrow L i ESCROW_STATE) IS_OPEN && eqb (escrow M i ESCROW_STATE) st) (escrow L i ESCROW_AMOUNT) 0

-- none, where the states stay
pub ended_none : (st : ℕ) (L M : Ledger) → eqb IS_OPEN st ≡ false
    → ((i : ℕ) → i < escrow_count L → escrow M i ESCROW_STATE ≡ escrow L i ESCROW_STATE) → ended_as st L M ≡ 0
unfolding ended_as
ended_none st L M other e =
    sum_zero (escrow_count L) (at st L M) (λ i l. one_none st (escrow L i ESCROW_STATE) (escrow M i ESCROW_STATE) (escrow L i ESCROW_AMOUNT) other (e i l))

-- other tables beside the same escrows
pub ended_beside : (st : ℕ) (L K M : Ledger) → M.edition ≡ K.edition → M.escrows ≡ K.escrows → ended_as st L M ≡ ended_as st L K
unfolding ended_as
ended_beside st L K M d t =
    λ j. sum (escrow_count L) (λ i. cond (eqb (escrow L i ESCROW_STATE) IS_OPEN && eqb (word (t j) (d j).escrow i ESCROW_STATE) st) (escrow L i ESCROW_AMOUNT) 0)

pub ended_same : (st : ℕ) (L M : Ledger) → eqb IS_OPEN st ≡ false → M.edition ≡ L.edition → M.escrows ≡ L.escrows → ended_as st L M ≡ 0
ended_same st L M other d t = ended_beside st L L M d t ∙ ended_none st L L other (λ i l. refl)

-- from L to K, and on to M
pub ended_then : (st : ℕ) (L K M : Ledger) → eqb IS_OPEN st ≡ false → escrow_count K ≡ escrow_count L → Onward L K → Onward K M
    → ended_as st L M ≡ ended_as st L K + ended_as st K M
unfolding ended_as
ended_then st L K M other n a b =
    sum_both (escrow_count L) (at st L M) (at st L K) (at st K M)
    (λ i l. one_then st (escrow L i ESCROW_STATE) (escrow K i ESCROW_STATE) (escrow M i ESCROW_STATE) (escrow L i ESCROW_AMOUNT) (escrow K i ESCROW_AMOUNT)
    other (a.amounts i l) (a.shut i l) (b.shut i (omega arith)))
    ∙ ap (λ (k : ℕ). sum (escrow_count L) (at st L K) + sum k (at st K M)) (sym n)

-- ---- the end of an escrow

module _ (state now signer i : ℕ) (L : Ledger) (wide : 8 ≤ L.edition.escrow) where
  -- no other escrow is touched, and no word but the three
  pub end_other : (j k : ℕ) → k < 8 → j ≢ i → escrow (end_escrow state now signer i L) j k ≡ escrow L j k
  unfolding end_escrow raise lower put_wallet put_escrow
  end_other j k h ne =
      shut_row L.escrows L.edition.escrow i ESCROW_STATE state ESCROW_CLOSED_AT now ESCROW_CLOSED_BY signer (omega arith) (omega arith) (omega arith)
      j k (omega arith) ne

  pub end_word : (j k : ℕ) → k < ESCROW_STATE → escrow (end_escrow state now signer i L) j k ≡ escrow L j k
  unfolding end_escrow raise lower put_wallet put_escrow
  end_word j k h =
      shut_col L.escrows L.edition.escrow i ESCROW_STATE state ESCROW_CLOSED_AT now ESCROW_CLOSED_BY signer (omega arith) (omega arith) (omega arith)
      j k (omega arith) (omega arith) (omega arith) (omega arith)

-- its state
pub end_state : (state now signer i : ℕ) (L : Ledger) → Good L → i < escrow_count L → escrow (end_escrow state now signer i L) i ESCROW_STATE ≡ state
unfolding end_escrow raise lower put_wallet put_escrow
end_state state now signer i L g l =
    let n : ℕ = escrow_count L in
    let len : ℕ = L.edition.escrow in
    let c4 : ESCROW_STATE < len = omega (arith, g.wide) in
    shut_same L.escrows len i ESCROW_STATE state ESCROW_CLOSED_AT now ESCROW_CLOSED_BY signer c4 (omega (arith, g.wide)) (omega (arith, g.wide))
    (omega arith) (omega arith) (in_table len n i ESCROW_STATE L.escrows (rows_fit len n L.escrows g.escrows_in) l c4)

-- an open one: its amount ends, in the state that it ends in
pub ended_end : (st state now signer i : ℕ) (L : Ledger) → eqb IS_OPEN st ≡ false → Good L → i < escrow_count L
    → eqb (escrow L i ESCROW_STATE) IS_OPEN ≡ true → ended_as st L (end_escrow state now signer i L) ≡ cond (eqb state st) (escrow L i ESCROW_AMOUNT) 0
unfolding ended_as
ended_end st state now signer i L other g l open_i =
    let n : ℕ = escrow_count L in
    let M : Ledger = end_escrow state now signer i L in
    let here : at st L M i ≡ cond (eqb state st) (escrow L i ESCROW_AMOUNT) 0 =
    ap₂ (λ (b : Bool) (k : ℕ). cond (b && eqb k st) (escrow L i ESCROW_AMOUNT) 0) open_i (end_state state now signer i L g l) in
    let others : (j : ℕ) → j < n → j ≢ i → at st L M j ≡ 0 =
    λ j h ne. one_none st (escrow L j ESCROW_STATE) (escrow M j ESCROW_STATE) (escrow L j ESCROW_AMOUNT) other
    (end_other state now signer i L g.wide j ESCROW_STATE (lit< tt) ne) in
    omega (arith, sum_change n i (at st L M) (λ _. 0) l others, sum_zero n (λ _. 0) (λ j h. refl), here)

-- ---- receipts that are accepted, or closed by a sweep

-- the receipt in row i has its escrow released if it is accepted
abbrev pub releases : Ledger → ℕ → ℕ → Bool
releases L now i = not (eqb (receipt L i RECEIPT_LINK) 0) && releasable L now (receipt L i RECEIPT_LINK - 1)

-- the escrows of L, with one of them released or none
abbrev pub released_if : Bool → ℕ → ℕ → ℕ → Ledger → Ledger
released_if b now signer i L = cond b (end_escrow RELEASED now signer (receipt L i RECEIPT_LINK - 1) L) L

pub accept_escrows : (now signer i : ℕ) (L : Ledger) → (accept_row now signer i L).after.escrows ≡ (released_if (releases L now i) now signer i L).escrows
unfolding accept_row close_receipt put_receipt end_escrow raise lower put_wallet put_escrow
accept_escrows now signer i L = go (eqb (receipt L i RECEIPT_LINK) 0) (releasable L now (receipt L i RECEIPT_LINK - 1))
  where
    k : ℕ
    k = receipt L i RECEIPT_LINK - 1

    closed : Ledger
    closed = close_receipt ACCEPTED now signer i L

    go : (a b : Bool)
        → (cond a (done 0 closed) (cond b (done (receipt L i RECEIPT_LINK) (end_escrow RELEASED now signer k closed)) (done 0 (put_receipt i RELEASE_CODE RELEASE_IMPOSSIBLE closed)))).after.escrows
        ≡ (released_if (not a && b) now signer i L).escrows
    go true b = unfold close_receipt put_receipt in refl
    go false true = unfold close_receipt put_receipt end_escrow raise lower put_wallet put_escrow in refl
    go false false = unfold close_receipt put_receipt in refl

pub due_escrows : (now i : ℕ) (L : Ledger)
    → (close_due_receipt now i L).escrows ≡ (released_if (eqb (receipt L i AUTO_ACCEPT) 1 && releases L now i) now 0 i L).escrows
unfolding close_due_receipt
due_escrows now i L = go (eqb (receipt L i AUTO_ACCEPT) 1)
  where
    go : (a : Bool) → (cond a (accept_row now 0 i L).after (close_receipt LAPSED now 0 i L)).escrows ≡ (released_if (a && releases L now i) now 0 i L).escrows
    go true = accept_escrows now 0 i L
    go false = unfold close_receipt put_receipt in refl

-- what was written of any receipt when it was claimed stays
close_early : (state now signer i : ℕ) (L : Ledger) (j k : ℕ) → k < RECEIPT_STATE → receipt (close_receipt state now signer i L) j k ≡ receipt L j k
unfolding close_receipt put_receipt
close_early state now signer i L j k h =
    shut_col L.receipts RECEIPT_LEN i RECEIPT_STATE state RECEIPT_CLOSED_AT now RECEIPT_CLOSED_BY signer (lit< tt) (lit< tt) (lit< tt) j k (omega arith)
    (omega arith) (omega arith) (omega arith)

code_early : (i v : ℕ) (L : Ledger) (j k : ℕ) → k < RECEIPT_STATE → receipt (put_receipt i RELEASE_CODE v L) j k ≡ receipt L j k
unfolding put_receipt
code_early i v L j k h = word_col L.receipts RECEIPT_LEN i RELEASE_CODE v j k (lit< tt) (omega arith) (omega arith)

end_receipt : (state now signer i : ℕ) (L : Ledger) (j k : ℕ) → receipt (end_escrow state now signer i L) j k ≡ receipt L j k
unfolding end_escrow raise lower put_wallet put_escrow
end_receipt state now signer i L j k = refl

pub due_early : (now i : ℕ) (L : Ledger) (j k : ℕ) → k < RECEIPT_STATE → receipt (close_due_receipt now i L) j k ≡ receipt L j k
unfolding close_due_receipt accept_row
due_early now i L j k h =
    let same : Ledger → Type 0 = λ M. receipt M j k ≡ receipt L j k in
    let closed : Ledger = close_receipt ACCEPTED now 0 i L in
    let stays : receipt closed j k ≡ receipt L j k = close_early ACCEPTED now 0 i L j k h in
    cond_case same (eqb (receipt L i AUTO_ACCEPT) 1) _ _
    (λ e. cond_case (λ (d : Done). same d.after) (eqb (receipt L i RECEIPT_LINK) 0) _ _ (λ a. stays)
    (λ a. cond_case (λ (d : Done). same d.after) (releasable L now (receipt L i RECEIPT_LINK - 1)) _ _
    (λ b. end_receipt _ now 0 _ closed j k ∙ stays) (λ b. code_early i _ closed j k h ∙ stays)))
    (λ e. close_early _ now 0 i L j k h)
