-- One escrow more: whether it is right, from its own row and from what a look-up of its two wallets answers; and what it adds to the sums.
use mathlib.Core.Path.{◌≡◌, refl, sym, ap, ◌∙◌}
use mathlib.Core.Bool.{Bool, true, false, cond, ◌&&◌}
use mathlib.Core.List.{List, ◌∷◌}
use Prim.Native.Nat.{ℕ, ◌+◌, ◌*◌, ◌≤◌, ◌<◌}
use native.Mathlib.Omega.{arith}
use native.Mathlib.Nat.{le_refl}
use native.Mathlib.Decide.{ℕ_discrete}
use lib.Dec.{eqb, ltb}
use lib.ListN.{get_or, set, length-set}
use lib.Seq.{get_or-set_same, get_or-set_other}
use borrow.Author.Tests.{eq-eqb, ne_eqb, ltb-true}
use Rattle.std.specs.Prelude.{Option, None, Some}
use Rattle.std.proofs.lemmas.Option.{same_Some, none-some}
use Rattle.rules.specs.Wallets.{numbered}
use Rattle.rules.specs.declared.WalletNumber.{WalletNumber}
use Rattle.rules.specs.Limits.{WALLET_LEN, MAX_WALLETS, MAX_ESCROWS, MAX_AMOUNT_MICRO, ID, FROM, TO, ESCROW_AMOUNT, ESCROW_STATE, IS_OPEN}
use Rattle.rules.specs.Table.{word, all, every, distinct}
use Rattle.rules.specs.Ledger.{row_of}
use Rattle.rules.specs.Sound.{escrow_alone_tests, escrow_tests, held_in}
use Rattle.rules.proofs.Bools.{and_intro, and_none_snd}
use Rattle.rules.proofs.Counts.{every_at, sum_step, sum_most}
use Rattle.rules.proofs.Tests.{escrow_says}
use Rattle.rules.proofs.Accounts.{row_hit, first_row}
use Rattle.index.specs.Index.{number_of, sender_of}
use Rattle.sound.specs.Parts.{parties, held_of, Held}

-- an escrow's two wallets are written, and the sender has this number
pub record Sent (w : List ℕ) (n from to number : ℕ) : Type 0 where
  pub sender : ltb (row_of w n from) n ≡ true
  pub recipient : ltb (row_of w n to) n ≡ true
  pub numbered : number ≡ row_of w n from + 1

pub sent : (w : List ℕ) (n from to : ℕ) (r : Option WalletNumber) (number : WalletNumber) → r ≡ sender_of w n from to → r ≡ Some number
    → Sent w n from to number.0
unfolding number_of sender_of
sent w n from to r number e s = go (ltb (row_of w n to) n) refl (ltb (row_of w n from) n) refl
  where
    go : (a : Bool) → ltb (row_of w n to) n ≡ a → (b : Bool) → ltb (row_of w n from) n ≡ b → Sent w n from to number.0
    go true p true q =
        let f : Some number ≡ Some (numbered (row_of w n from)) = sym s ∙ e ∙ rw (p, q) in
        record { sender = q; recipient = p; numbered = ap (λ k. k.0) (same_Some _ _ f) }
    go true p false q = absurd (none-some number (sym (sym s ∙ e ∙ rw (p, q))))
    go false p b q = absurd (none-some number (sym (sym s ∙ e ∙ rw p)))

pub not_sent : (w : List ℕ) (n from to : ℕ) (r : Option WalletNumber) (b : Bool) → r ≡ sender_of w n from to → r ≡ None
    → ltb (row_of w n from) n && (ltb (row_of w n to) n && b) ≡ false
unfolding number_of sender_of
not_sent w n from to r b e z = go (ltb (row_of w n to) n) refl (ltb (row_of w n from) n) refl
  where
    go : (p : Bool) → ltb (row_of w n to) n ≡ p → (q : Bool) → ltb (row_of w n from) n ≡ q → ltb (row_of w n from) n && (ltb (row_of w n to) n && b) ≡ false
    go true p true q = absurd (none-some (numbered (row_of w n from)) (sym z ∙ e ∙ rw (p, q)))
    go true p false q = rw q
    go false p c q = and_none_snd (ltb (row_of w n from) n) (ltb (row_of w n to) n && b) (rw p)

-- the sender's row is written
pub sent_row : (w : List ℕ) (n from to number : ℕ) → Sent w n from to number → row_of w n from < n
sent_row w n from to number s = ltb-true (row_of w n from) n s.sender

module _ (len : ℕ) (w : List ℕ) (n : ℕ) (e : List ℕ) (m : ℕ) where
  -- the tests of escrow k
  abbrev right : ℕ → Bool
  right k = all (escrow_tests (parties len w n e m) k)

  -- of its own row, and of all
  pub row_wrong : (k : ℕ) (b : Bool) → b ≡ all (escrow_alone_tests (parties len e 0 e 0) k) → b ≡ false → right k ≡ false
  row_wrong k b x z =
      and_none_snd (ltb (row_of w n (word e len k FROM)) n) (all (ltb (row_of w n (word e len k TO)) n ∷ escrow_alone_tests (parties len w n e m) k))
      (and_none_snd (ltb (row_of w n (word e len k TO)) n) (all (escrow_alone_tests (parties len w n e m) k)) (sym x ∙ z))

  pub row_right : (k number : ℕ) (b : Bool) → b ≡ all (escrow_alone_tests (parties len e 0 e 0) k) → b ≡ true
      → Sent w n (word e len k FROM) (word e len k TO) number → right k ≡ true
  row_right k number b x z s =
      and_intro (ltb (row_of w n (word e len k FROM)) n) (all (ltb (row_of w n (word e len k TO)) n ∷ escrow_alone_tests (parties len w n e m) k)) s.sender
      (and_intro (ltb (row_of w n (word e len k TO)) n) (all (escrow_alone_tests (parties len w n e m) k)) s.recipient (sym x ∙ z))

  -- an amount that is right is within its limit
  pub amount_most : (k : ℕ) → right k ≡ true → word e len k ESCROW_AMOUNT ≤ MAX_AMOUNT_MICRO
  amount_most k x = (escrow_says (parties len w n e m) k x).own.high

-- what escrow k holds of an id, where that is the sender's and where it is another's
module _ (len : ℕ) (w e : List ℕ) (x k : ℕ) where
  pub held_most : held_in (parties len w 0 e 0) x k ≤ word e len k ESCROW_AMOUNT
  unfolding held_in
  held_most = go (eqb (word e len k FROM) x && eqb (word e len k ESCROW_STATE) IS_OPEN)
    where
      go : (b : Bool) → cond b (word e len k ESCROW_AMOUNT) 0 ≤ word e len k ESCROW_AMOUNT
      go true = le_refl _
      go false = omega arith

  held_own : word e len k FROM ≡ x
      → held_in (parties len w 0 e 0) x k ≡ cond (eqb (word e len k ESCROW_STATE) IS_OPEN) (word e len k ESCROW_AMOUNT) 0
  unfolding held_in
  held_own p = rw (eq-eqb _ _ p)

  held_other : (word e len k FROM ≡ x → ⊥) → held_in (parties len w 0 e 0) x k ≡ 0
  unfolding held_in
  held_other p = rw (ne_eqb _ _ p)

-- what an escrow holds of its sender
abbrev held_by : ℕ → List ℕ → ℕ → ℕ
held_by len e k = cond (eqb (word e len k ESCROW_STATE) IS_OPEN) (word e len k ESCROW_AMOUNT) 0

-- the sum of a wallet and what one escrow more holds of it fit
pub sums_fit : (len : ℕ) (w : List ℕ) (n : ℕ) (e : List ℕ) (m k from to number h : ℕ) (sums : List ℕ)
    → Held len w n e k sums → every k (λ i. all (escrow_tests (parties len w n e m) i)) ≡ true → all (escrow_tests (parties len w n e m) k) ≡ true
    → Sent w n from to number → k < MAX_ESCROWS → h ≡ held_by len e k → get_or sums number 0 + h ≤ MAX_ESCROWS * MAX_AMOUNT_MICRO
sums_fit len w n e m k from to number h sums a r now s l x =
    let row< : row_of w n from < n = sent_row w n from to number s in
    let one : h ≤ MAX_AMOUNT_MICRO = rw x (most (eqb (word e len k ESCROW_STATE) IS_OPEN)) in
    let sofar : held_of len w e k (row_of w n from) ≤ k * MAX_AMOUNT_MICRO =
    sum_most k MAX_AMOUNT_MICRO (held_in (parties len w 0 e 0) (word w WALLET_LEN (row_of w n from) ID))
    (λ j q. omega (arith, held_most len w e (word w WALLET_LEN (row_of w n from) ID) j, amount_most len w n e m j (every_at k (right len w n e m) r j q))) in
    omega (arith, ap (λ i. get_or sums i 0) s.numbered ∙ a.sum (row_of w n from) row<)
  where
    most : (b : Bool) → cond b (word e len k ESCROW_AMOUNT) 0 ≤ MAX_AMOUNT_MICRO
    most true = amount_most len w n e m k now
    most false = omega arith

-- the sums with one escrow more
pub held_more : (len : ℕ) (w : List ℕ) (n : ℕ) (e : List ℕ) (k to number h : ℕ) (sums : List ℕ)
    → Held len w n e k sums → distinct n (λ i. word w WALLET_LEN i ID) ≡ true → n ≤ MAX_WALLETS
    → Sent w n (word e len k FROM) to number
    → h ≡ held_by len e k → Held len w n e (k + 1) (set sums number (get_or sums number 0 + h))
held_more len w n e k to number h sums a d few s x =
    record { room = simp length-set a.room; sum = λ i l. go i l (ℕ_discrete i row) }
  where
    from : ℕ
    from = word e len k FROM

    row : ℕ
    row = row_of w n from

    row< : row < n
    row< = sent_row w n from to number s

    held : ℕ → ℕ → ℕ
    held i = held_in (parties len w 0 e 0) (word w WALLET_LEN i ID)

    go : (i : ℕ) → i < n → Dec (i ≡ row) → get_or (set sums number (get_or sums number 0 + h)) (i + 1) 0 ≡ held_of len w e (k + 1) i
    go i l (yes p) =
        let q : i + 1 ≡ number = omega (arith, s.numbered) in
        let own : from ≡ word w WALLET_LEN i ID = sym (ap (λ j. word w WALLET_LEN j ID) p ∙ row_hit w n from row<) in
        ap (λ j. get_or (set sums number (get_or sums number 0 + h)) j 0) q
        ∙ get_or-set_same sums number (get_or sums number 0 + h) 0 (omega (arith, a.room))
        ∙ omega (
          arith,
          sym (ap (λ j. get_or sums j 0) q) ∙ a.sum i l,
          sum_step k (held i),
          held_own len w e (word w WALLET_LEN i ID) k own ∙ sym x,
        )
    go i l (no p) =
        get_or-set_other sums number (i + 1) (get_or sums number 0 + h) 0 (omega (arith, p, s.numbered))
        ∙ omega (
          arith,
          a.sum i l,
          sum_step k (held i),
          held_other len w e (word w WALLET_LEN i ID) k (λ z. p (sym (first_row w n from i d l (sym z)))),
        )
