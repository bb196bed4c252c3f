-- Laws of the search for the first number of which something holds.
use mathlib.Core.Path.{◌≡◌, refl, sym, ap, ap₂, ◌∙◌}
use mathlib.Core.Bool.{Bool, true, false, cond}
use Prim.Native.Nat.{ℕ, zero, suc, ◌≤◌, ◌<◌}
use native.Mathlib.Nat.{not-suc-le-zero}
use native.Mathlib.Omega.{arith}
use Rattle.rules.specs.Table.{seek}

pub seek_le : (n : ℕ) (p : ℕ → Bool) → seek n p ≤ n
unfolding seek
seek_le zero p = omega arith
seek_le (suc n) p = go (p zero) refl (seek_le n (λ i. p (suc i)))
  where
    go : (b : Bool) → p zero ≡ b → seek n (λ i. p (suc i)) ≤ n → seek (suc n) p ≤ suc n
    go true e ih = rw (e, seek) (omega arith)
    go false e ih = rw (e, seek) (omega arith)

pub seek_hit : (n : ℕ) (p : ℕ → Bool) → seek n p < n → p (seek n p) ≡ true
unfolding seek
seek_hit zero p h = absurd (not-suc-le-zero h)
seek_hit (suc n) p h = go (p zero) refl (seek_hit n (λ i. p (suc i)))
  where
    go : (b : Bool) → p zero ≡ b → (seek n (λ i. p (suc i)) < n → p (suc (seek n (λ i. p (suc i)))) ≡ true) → p (seek (suc n) p) ≡ true
    go true e ih = rw (e, seek) e
    go false e ih =
        let h' : suc (seek n (λ i. p (suc i))) < suc n = rw (e, seek) at h in
        rw (e, seek) (ih (omega arith))

-- by tests that agree below n, the same is found
pub seek_ext : (n : ℕ) (p q : ℕ → Bool) → ((i : ℕ) → i < n → p i ≡ q i) → seek n p ≡ seek n q
unfolding seek
seek_ext zero p q e = refl
seek_ext (suc n) p q e =
    ap₂ (λ (b : Bool) (k : ℕ). cond b zero (suc k)) (e zero (omega arith)) (seek_ext n (λ i. p (suc i)) (λ i. q (suc i)) (λ i h. e (suc i) (omega arith)))

-- what is found below n is found there below any larger number, and by any test that agrees
pub seek_more : (n m : ℕ) (p q : ℕ → Bool) → n ≤ m → ((i : ℕ) → i < n → p i ≡ q i) → seek n p < n → seek m q ≡ seek n p
unfolding seek
seek_more zero m p q l e h = absurd (not-suc-le-zero h)
seek_more (suc n) zero p q l e h = absurd (not-suc-le-zero l)
seek_more (suc n) (suc m) p q l e h = go (p zero) refl (seek_more n m (λ i. p (suc i)) (λ i. q (suc i)) (omega arith) (λ i x. e (suc i) (omega arith)))
  where
    go : (b : Bool) → p zero ≡ b → (seek n (λ i. p (suc i)) < n → seek m (λ i. q (suc i)) ≡ seek n (λ i. p (suc i))) → seek (suc m) q ≡ seek (suc n) p
    go true x ih =
        let y : q zero ≡ true = sym (e zero (omega arith)) ∙ x in
        rw (x, y, seek) refl
    go false x ih =
        let y : q zero ≡ false = sym (e zero (omega arith)) ∙ x in
        let h' : suc (seek n (λ i. p (suc i))) < suc n = rw (x, seek) at h in
        rw (x, y, seek) (ap suc (ih (omega arith)))

-- nothing found below n, and n itself fits: found at n
pub seek_next : (n : ℕ) (p q : ℕ → Bool) → ((i : ℕ) → i < n → p i ≡ q i) → seek n p ≡ n → q n ≡ true → seek (suc n) q ≡ n
unfolding seek
seek_next zero p q e h x = rw (x, seek) refl
seek_next (suc n) p q e h x = go (p zero) refl (λ y. seek_next n (λ i. p (suc i)) (λ i. q (suc i)) (λ i l. e (suc i) (omega arith)) y x)
  where
    go : (b : Bool) → p zero ≡ b → (seek n (λ i. p (suc i)) ≡ n → seek (suc n) (λ i. q (suc i)) ≡ n) → seek (suc (suc n)) q ≡ suc n
    go true y ih =
        let h' : ◌≡◌ {A = ℕ} zero (suc n) = rw (y, seek) at h in
        absurd (omega arith)
    go false y ih =
        let z : q zero ≡ false = sym (e zero (omega arith)) ∙ y in
        let h' : suc (seek n (λ i. p (suc i))) ≡ suc n = rw (y, seek) at h in
        rw (z, seek) (ap suc (ih (omega arith)))

-- nothing found below n, and n itself does not fit: nothing is found
pub seek_none : (n : ℕ) (p q : ℕ → Bool) → ((i : ℕ) → i < n → p i ≡ q i) → seek n p ≡ n → q n ≡ false → seek (suc n) q ≡ suc n
unfolding seek
seek_none zero p q e h x = rw (x, seek) refl
seek_none (suc n) p q e h x = go (p zero) refl (λ y. seek_none n (λ i. p (suc i)) (λ i. q (suc i)) (λ i l. e (suc i) (omega arith)) y x)
  where
    go : (b : Bool) → p zero ≡ b → (seek n (λ i. p (suc i)) ≡ n → seek (suc n) (λ i. q (suc i)) ≡ suc n) → seek (suc (suc n)) q ≡ suc (suc n)
    go true y ih =
        let h' : ◌≡◌ {A = ℕ} zero (suc n) = rw (y, seek) at h in
        absurd (omega arith)
    go false y ih =
        let z : q zero ≡ false = sym (e zero (omega arith)) ∙ y in
        let h' : suc (seek n (λ i. p (suc i))) ≡ suc n = rw (y, seek) at h in
        rw (z, seek) (ap suc (ih (omega arith)))

-- what a loop over the rows shows: nothing before i and i itself; or nothing at all
pub seek_at : (n : ℕ) (p : ℕ → Bool) (i : ℕ) → i < n → ((j : ℕ) → j < i → p j ≡ false) → p i ≡ true → seek n p ≡ i
unfolding seek
seek_at zero p i h e x = absurd (not-suc-le-zero h)
seek_at (suc n) p zero h e x = rw (x, seek) refl
seek_at (suc n) p (suc i) h e x =
    let z : p zero ≡ false = e zero (omega arith) in
    let r : seek n (λ j. p (suc j)) ≡ i = seek_at n (λ j. p (suc j)) i (omega arith) (λ j l. e (suc j) (omega arith)) x in
    rw (z, seek) (ap suc r)

pub seek_not : (n : ℕ) (p : ℕ → Bool) → ((j : ℕ) → j < n → p j ≡ false) → seek n p ≡ n
unfolding seek
seek_not zero p e = refl
seek_not (suc n) p e =
    let z : p zero ≡ false = e zero (omega arith) in
    let r : seek n (λ j. p (suc j)) ≡ n = seek_not n (λ j. p (suc j)) (λ j l. e (suc j) (omega arith)) in
    rw (z, seek) (ap suc r)
