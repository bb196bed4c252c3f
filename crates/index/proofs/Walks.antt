-- Laws of walks. A number that is put at a free place changes no walk that meets a number, and the walk that ended there meets it.
use mathlib.Core.Path.{◌≡◌, refl, sym, ap, ◌∙◌}
use mathlib.Core.Bool.{Bool, true, false, cond}
use mathlib.Core.List.{List}
use Prim.Native.Nat.{ℕ, zero, suc, ◌+◌, ◌-◌, ◌*◌, ◌/◌, ◌%◌, ◌≤◌, ◌<◌}
use native.Mathlib.Omega.{arith}
use native.Mathlib.Decide.{ℕ_discrete, dec_lt}
use lib.Dec.{eqb}
use lib.ListN.{get_or, set, length, length-set, replicate, length-replicate}
use lib.Seq.{get_or-set_same, get_or-set_other, set_out}
use borrow.Author.Tests.{eq-eqb, ne_eqb, eqb-true, eqb-false}
use Rattle.std.specs.Prelude.{Some}
use Rattle.rules.proofs.Rows.{zeros}
use Rattle.rules.proofs.Counts.{taken_back}
use Rattle.index.specs.Index.{ROOTS, BRANCHES, PLACES, STEPS, id_at, Within, walked, walk, Seated, Filled}

-- an empty index proposes nothing
pub within_empty : Within 0 (replicate PLACES 0)
within_empty = record { room = length-replicate {A = ℕ} PLACES 0; most = λ p. omega (arith, zeros PLACES p) }

-- the places propose one number more
pub within_more : (n p : ℕ) (t : List ℕ) → Within n t → Within (n + 1) (set t p (n + 1))
within_more n p t h = record { room = simp length-set h.room; most = λ q. go q (ℕ_discrete q p) (dec_lt p (length t)) }
  where
    go : (q : ℕ) → Dec (q ≡ p) → Dec (p < length t) → get_or (set t p (n + 1)) q 0 ≤ n + 1
    go q (no e) l = rw (get_or-set_other t p q (n + 1) 0 e) (omega (arith, h.most q))
    go q (yes e) (yes l) = rw (e, get_or-set_same t p (n + 1) 0 l) (omega arith)
    go q (yes e) (no l) = rw (set_out t p (n + 1) (omega (arith, l))) (omega (arith, h.most q))

-- what a place that proposes s says of the id x, where the walk goes on to `rest`
abbrev met : List ℕ → ℕ → ℕ → ℕ → ℕ
met ids x s rest = cond (eqb s 0) 0 (cond (eqb (get_or ids s 0) x) s rest)

module _ (ids u : List ℕ) (x f p y s : ℕ) (e : s ≡ get_or u p 0) where
  step : walked ids u x (suc f) p y ≡ met ids x s (walked ids u x f (ROOTS + s * BRANCHES + y % BRANCHES) (y / BRANCHES))
  unfolding walked
  step = rw e

  empty : s ≡ 0 → walked ids u x (suc f) p y ≡ 0
  empty z = step ∙ simp (eq-eqb _ _ z)

  -- past a number with another id
  past : (s ≡ 0 → ⊥) → (get_or ids s 0 ≡ x → ⊥)
      → walked ids u x (suc f) p y ≡ walked ids u x f (ROOTS + s * BRANCHES + y % BRANCHES) (y / BRANCHES)
  past z d = step ∙ simp (ne_eqb _ _ z, ne_eqb _ _ d)

  here : (s ≡ 0 → ⊥) → get_or ids s 0 ≡ x → walked ids u x (suc f) p y ≡ s
  here z d = step ∙ simp (ne_eqb _ _ z, eq-eqb _ _ d)

-- a place that proposes a number is none that is free
elsewhere : (t : List ℕ) (q v p s : ℕ) → get_or t q 0 ≡ 0 → s ≡ get_or t p 0 → (s ≡ 0 → ⊥) → s ≡ get_or (set t q v) p 0
elsewhere t q v p s f e z = e ∙ sym (get_or-set_other t q p v 0 (λ r. z (e ∙ ap (λ k. get_or t k 0) r ∙ f)))

-- on the walk of the id x: whatever is put at a free place, the walk goes on from the place p when it has taken so many steps
pub record OnWalk (ids t : List ℕ) (x step p y : ℕ) : Type 0 where
  pub goes : (q v : ℕ) → get_or t q 0 ≡ 0 → walk ids (set t q v) x ≡ walked ids (set t q v) x (STEPS - step) p y

-- the steps that are left, of which one is taken
one_less : (step : ℕ) → step < STEPS → STEPS - step ≡ suc (STEPS - (step + 1))
one_less step l = omega arith

module _ (ids t : List ℕ) (x : ℕ) where
  pub walk_start : OnWalk ids t x 0 (x % ROOTS) (x / ROOTS)
  unfolding walk
  walk_start = record { goes = λ q v e. refl }

  pub walk_on : (step p y s : ℕ) → OnWalk ids t x step p y → step < STEPS → s ≡ get_or t p 0 → (s ≡ 0 → ⊥) → (get_or ids s 0 ≡ x → ⊥)
      → OnWalk ids t x (step + 1) (ROOTS + s * BRANCHES + y % BRANCHES) (y / BRANCHES)
  walk_on step p y s o l e z d =
      record {
        goes = λ q v r.
            (rw (one_less step l) at (o.goes q v r)) ∙ past ids (set t q v) x (STEPS - (step + 1)) p y s (elsewhere t q v p s r e z) z d;
      }

  -- what is put at the free place where the walk has come
  pub walk_end : (step p y : ℕ) → OnWalk ids t x step p y → step < STEPS → p < length t → get_or t p 0 ≡ 0
      → (v : ℕ) → 0 < v → get_or ids v 0 ≡ x → walk ids (set t p v) x ≡ v
  walk_end step p y o l h r v z d =
      (rw (one_less step l) at (o.goes p v r))
      ∙ here ids (set t p v) x (STEPS - (step + 1)) p y v (sym (get_or-set_same t p v 0 h)) (omega arith) d

  kept : (q v : ℕ) → get_or t q 0 ≡ 0 → (f p y r : ℕ) → 0 < r → walked ids t x f p y ≡ r → walked ids (set t q v) x f p y ≡ r
  unfolding walked
  kept q v z zero p y r l e = e
  kept q v z (suc f) p y r l e = go (eqb (get_or t p 0) 0) refl (eqb (get_or ids (get_or t p 0) 0) x) refl (kept q v z f _ _ r l)
    where
      next : ℕ
      next = ROOTS + get_or t p 0 * BRANCHES + y % BRANCHES

      go : (a : Bool) → eqb (get_or t p 0) 0 ≡ a → (b : Bool) → eqb (get_or ids (get_or t p 0) 0) x ≡ b
          → (walked ids t x f next (y / BRANCHES) ≡ r → walked ids (set t q v) x f next (y / BRANCHES) ≡ r) → walked ids (set t q v) x (suc f) p y ≡ r
      go true i b j ih = let n : r ≡ 0 = sym e ∙ empty ids t x f p y _ refl (eqb-true _ _ i) in absurd (omega arith)
      go false i true j ih =
          here ids (set t q v) x f p y _ (elsewhere t q v p _ z refl (eqb-false _ _ i)) (eqb-false _ _ i) (eqb-true _ _ j)
          ∙ sym (here ids t x f p y _ refl (eqb-false _ _ i) (eqb-true _ _ j)) ∙ e
      go false i false j ih =
          past ids (set t q v) x f p y _ (elsewhere t q v p _ z refl (eqb-false _ _ i)) (eqb-false _ _ i) (eqb-false _ _ j)
          ∙ ih (sym (past ids t x f p y _ refl (eqb-false _ _ i) (eqb-false _ _ j)) ∙ e)

  -- a walk that meets a number still does
  pub walk_kept : (q v r : ℕ) → get_or t q 0 ≡ 0 → 0 < r → walk ids t x ≡ r → walk ids (set t q v) x ≡ r
  unfolding walk
  walk_kept q v r z l e = kept q v z STEPS (x % ROOTS) (x / ROOTS) r l e

-- the walk of each of the first n ids meets its number
pub record Back (ids : List ℕ) (n : ℕ) (t : List ℕ) : Type 0 where
  pub back : (j : ℕ) → j < n → walk ids t (id_at ids j) ≡ j + 1

pub back_more : (ids t : List ℕ) (n place : ℕ) → Back ids n t → Seated ids t (id_at ids n) place → Back ids (n + 1) (set t place (n + 1))
back_more ids t n place h s = record { back = λ j k. go j k (ℕ_discrete j n) }
  where
    go : (j : ℕ) → j < n + 1 → Dec (j ≡ n) → walk ids (set t place (n + 1)) (id_at ids j) ≡ j + 1
    go j k (yes e) = rw e (s.leads (n + 1) (omega arith) refl)
    go j k (no e) = walk_kept ids t (id_at ids j) place (n + 1) (j + 1) s.free (omega arith) (h.back j (omega (arith, e)))

-- every id is in the index, so ids differ
pub filled_all : (ids t : List ℕ) (n most : ℕ) → Within n t → Back ids n t → Filled ids n t (Some most)
filled_all ids t n most w b = record { within = w; right = sym (taken_back n (id_at ids) (walk ids t) b.back) }
