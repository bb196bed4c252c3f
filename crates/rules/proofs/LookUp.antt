-- LOOKING UP A WALLET finds what the definitions say that it means, and nothing else that is found would mean it. The search stops at the first row
-- that has the id, and a first row is where it stops; the rest is read off the three cases.
use mathlib.Core.Path.{◌≡◌, refl, sym, ap, ◌∙◌, subst}
use mathlib.Core.Logic.{◌≢◌}
use mathlib.Core.List.{List}
use mathlib.Core.Bool.{Bool, true, false}
use Prim.Native.Nat.{ℕ, zero, suc, ◌+◌, ◌-◌, ◌<◌}
use native.Mathlib.Nat.{not-suc-le-zero}
use native.Mathlib.Omega.{arith}
use lib.Dec.{eqb}
use borrow.Author.Tests.{eqb-true, eqb-false, eq-eqb, ne_eqb, ltb-true, ltb-false}
use Rattle.rules.specs.Limits.{WALLET_LEN, ID, FROZEN, IS_CLOSED}
use Rattle.rules.specs.Table.{word, seek}
use Rattle.rules.specs.Ledger.{Ledger, wallet_count, row_of}
use Rattle.rules.specs.Wallets.{numbered, look_up, looked_up, is_closed, First, Means}
use Rattle.rules.specs.Closed.{LookUpMeans, LookUpOnly}
use Rattle.rules.specs.declared.WalletNumber.{WalletNumber}
use Rattle.rules.specs.declared.WalletState.{WalletState}
use Rattle.rules.specs.declared.WalletState.TheVariants.{Missing, Live, Closed}
use Rattle.rules.proofs.Bools.{and_intro}
use Rattle.rules.proofs.Seek.{seek_at, seek_not}
use Rattle.rules.proofs.Wallets.{look_case, look_says}
use Rattle.rules.proofs.Accounts.{row_hit}

-- nothing before what a search finds fits
seek_before : (n : ℕ) (p : ℕ → Bool) (j : ℕ) → j < seek n p → p j ≡ false
unfolding seek
seek_before zero p j h = absurd (not-suc-le-zero h)
seek_before (suc n) p j h = go (p zero) refl j h (seek_before n (λ i. p (suc i)))
  where
    go : (b : Bool) → p zero ≡ b → (j : ℕ) → j < seek (suc n) p → ((i : ℕ) → i < seek n (λ i. p (suc i)) → p (suc i) ≡ false) → p j ≡ false
    go true e j h ih = absurd (not-suc-le-zero (rw (e, seek) at h))
    go false e zero h ih = e
    go false e (suc i) h ih =
        let h' : suc i < suc (seek n (λ i. p (suc i))) = rw (e, seek) at h in
        ih i (omega arith)

module _ (t : List ℕ) (n id : ℕ) where
  -- no row before the one that is found has the id
  row_before : (i : ℕ) → i < row_of t n id → word t WALLET_LEN i ID ≢ id
  unfolding row_of
  row_before i h = eqb-false _ id (seek_before n (λ j. eqb (word t WALLET_LEN j ID) id) i h)

  -- so a row that is found is the first that has it
  found_first : row_of t n id < n → First t n id (row_of t n id + 1)
  found_first found =
      let e : row_of t n id ≡ row_of t n id + 1 - 1 = omega arith in
      record {
        low = omega arith;
        high = omega arith;
        has = subst (λ (i : ℕ). word t WALLET_LEN i ID ≡ id) e (row_hit t n id found);
        earlier = λ i h. row_before i (omega (arith, h));
      }

  -- the first row that has it is found, and none where none has it
  row_first : (k : ℕ) → First t n id k → row_of t n id + 1 ≡ k
  unfolding row_of
  row_first k f =
      let r = seek_at n (λ j. eqb (word t WALLET_LEN j ID) id) (k - 1) (omega (arith, f.low, f.high)) (λ j h. ne_eqb _ id (f.earlier j h)) (eq-eqb _ id f.has) in
      omega (arith, r, f.low)

  row_none : ((i : ℕ) → i < n → word t WALLET_LEN i ID ≢ id) → row_of t n id ≡ n
  unfolding row_of
  row_none none = seek_not n (λ j. eqb (word t WALLET_LEN j ID) id) (λ j h. ne_eqb _ id (none j h))

  -- a first number is that of the row that is found, which has that row's frozen word
  module _ (k : WalletNumber) (f : First t n id k.0) where
    first_found : row_of t n id < n
    first_found = omega (arith, row_first k.0 f, f.high)

    first_number : k ≡ numbered (row_of t n id)
    first_number = let e : row_of t n id + 1 ≡ k.0 = row_first k.0 f in λ i. record { 0 = sym e i }

    first_frozen : word t WALLET_LEN (k.0 - 1) FROZEN ≡ word t WALLET_LEN (row_of t n id) FROZEN
    first_frozen = let e : k.0 - 1 ≡ row_of t n id = omega (arith, row_first k.0 f) in ap (λ (i : ℕ). word t WALLET_LEN i FROZEN) e

-- ---- the theorems

pub look_up_means : LookUpMeans
look_up_means t n id =
    let r : ℕ = row_of t n id in
    let e : r ≡ r + 1 - 1 = omega arith in
    look_case (Means t n id) t n id (λ m i l. row_before t n id i (omega (arith, ltb-false r n m, l)))
    (λ m c. (found_first t n id (ltb-true r n m), subst (λ (i : ℕ). word t WALLET_LEN i FROZEN ≢ IS_CLOSED) e (eqb-false _ IS_CLOSED c)))
    (λ m c. (found_first t n id (ltb-true r n m), subst (λ (i : ℕ). word t WALLET_LEN i FROZEN ≡ IS_CLOSED) e (eqb-true _ IS_CLOSED c)))

pub look_up_only : LookUpOnly
look_up_only t n id Missing m =
    look_case (λ (x : WalletState). Missing ≡ x) t n id (λ l. refl) (λ l c. absurd (omega (arith, ltb-true (row_of t n id) n l, row_none t n id m)))
    (λ l c. absurd (omega (arith, ltb-true (row_of t n id) n l, row_none t n id m)))
look_up_only t n id (Live k) m =
    look_case (λ (x : WalletState). Live k ≡ x) t n id (λ l. absurd (omega (arith, ltb-false (row_of t n id) n l, first_found t n id k m.0)))
    (λ l c. ap Live (first_number t n id k m.0)) (λ l c. absurd (m.1 (first_frozen t n id k m.0 ∙ eqb-true _ IS_CLOSED c)))
look_up_only t n id (Closed k) m =
    look_case (λ (x : WalletState). Closed k ≡ x) t n id (λ l. absurd (omega (arith, ltb-false (row_of t n id) n l, first_found t n id k m.0)))
    (λ l c. absurd (eqb-false _ IS_CLOSED c (sym (first_frozen t n id k m.0) ∙ m.1))) (λ l c. ap Closed (first_number t n id k m.0))

-- ---- a wallet that is found closed

-- it is written, k is the number of its row, and its frozen word says so
pub record ShutRow (t : List ℕ) (n id : ℕ) (k : WalletNumber) : Type 0 where
  pub found : row_of t n id < n
  pub number : row_of t n id + 1 ≡ k.0
  pub frozen : word t WALLET_LEN (k.0 - 1) FROZEN ≡ IS_CLOSED

pub shut_says : (t : List ℕ) (n id : ℕ) (k : WalletNumber) → look_up t n id ≡ Closed k → ShutRow t n id k
shut_says t n id k e =
    let m : Means t n id (Closed k) = subst (Means t n id) e (look_up_means t n id) in
    record { found = first_found t n id k m.0; number = row_first t n id k.0 m.0; frozen = m.1 }

pub shut_found : (t : List ℕ) (n id : ℕ) (k : WalletNumber) → ShutRow t n id k → look_up t n id ≡ Closed k
shut_found t n id k s =
    sym (look_up_only t n id (Closed k) (subst (First t n id) s.number (found_first t n id s.found), s.frozen))

pub is_closed_lem : (L : Ledger) (id : ℕ) (k : WalletNumber) → looked_up L id ≡ Closed k → is_closed L id ≡ true
is_closed_lem L id k e = let says = look_says L.wallets (wallet_count L) id (Closed k) (sym e) in and_intro _ _ says.0 says.1
