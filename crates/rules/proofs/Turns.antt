-- Rows closed one after the other while there is room, whatever closes them: if closing a row leaves every other row due or not as it was,
-- then a loop that closes due rows closes the first of the list of rows that were due before it, as many as there is room for.
use mathlib.Core.Path.{◌≡◌, refl, sym, ap, ap₂, ◌∙◌}
use mathlib.Core.Logic.{◌≢◌}
use mathlib.Core.List.{List, [], ◌∷◌, ◌++◌, append-nil}
use mathlib.Core.Bool.{Bool, true, false, cond, ◌&&◌}
use Prim.Native.Nat.{ℕ, zero, suc, ◌+◌, ◌-◌, ◌<◌}
use native.Mathlib.Decide.{dec_lt}
use native.Mathlib.Omega.{arith}
use lib.ListN.{length, take, length-append, length-take}
use lib.Seq.{take-append-le, take_all, take-nil}
use lib.Dec.{ltb}
use borrow.Author.Tests.{lt-ltb, le-ltb}
use Rattle.rules.specs.Table.{loop}
use Rattle.rules.specs.Ledger.{Ledger}
use Rattle.rules.specs.Settle.{Sweep, one_more}
use Rattle.rules.specs.Due.{those, close_all}
use Rattle.rules.proofs.Bools.{cond_case, and_none_fst, and_none_snd, and_intro}

-- ---- the numbers of which something holds

pub those_ext : (n : ℕ) (p q : ℕ → Bool) → ((i : ℕ) → i < n → p i ≡ q i) → those n p ≡ those n q
unfolding those
those_ext zero p q e = refl
those_ext (suc n) p q e =
    ap₂ (λ (l : List ℕ) (b : Bool). l ++ cond b (n ∷ []) []) (those_ext n p q (λ i h. e i (omega arith))) (e n (omega arith))

-- every number of the list is below n
abbrev AllBelow : ℕ → List ℕ → Type 0
AllBelow n [] = Unit {0}
AllBelow n (i ∷ is) = (i < n) × AllBelow n is

below_append : (n : ℕ) (xs ys : List ℕ) → AllBelow n xs → AllBelow n ys → AllBelow n (xs ++ ys)
below_append n [] ys a b = b
below_append n (x ∷ xs) ys a b = (a.0, below_append n xs ys a.1 b)

below_take : (n k : ℕ) (xs : List ℕ) → AllBelow n xs → AllBelow n (take k xs)
below_take n zero xs a = tt
below_take n (suc k) [] a = tt
below_take n (suc k) (x ∷ xs) a = (a.0, below_take n k xs a.1)

below_more : (n : ℕ) (xs : List ℕ) → AllBelow n xs → AllBelow (suc n) xs
below_more n [] a = tt
below_more n (x ∷ xs) a = (omega (arith, a.0), below_more n xs a.1)

below_those : (n : ℕ) (p : ℕ → Bool) → AllBelow n (those n p)
unfolding those
below_those zero p = tt
below_those (suc n) p =
    below_append (suc n) (those n p) _ (below_more n (those n p) (below_those n p))
    (cond_case (AllBelow (suc n)) (p n) (n ∷ []) [] (λ e. (omega arith, tt)) (λ e. tt))

-- ---- rows closed

pub close_append : (close : ℕ → Ledger → Ledger) (xs ys : List ℕ) (L : Ledger) → close_all close (xs ++ ys) L ≡ close_all close ys (close_all close xs L)
close_append close [] ys L = refl
close_append close (x ∷ xs) ys L = close_append close xs ys (close x L)

-- what each closing keeps, all keep
pub close_keeps : (Ok : Ledger → Type 0) (close : ℕ → Ledger → Ledger) → ((L : Ledger) (i : ℕ) → Ok L → Ok (close i L))
    → (ds : List ℕ) (L : Ledger) → Ok L → Ok (close_all close ds L)
close_keeps Ok close k [] L x = x
close_keeps Ok close k (d ∷ ds) L x = close_keeps Ok close k ds (close d L) (k L d x)

-- one turn of the loop, and a sweep that has closed the rows ds with room for `limit`, after c others
abbrev pub turn : (Ledger → ℕ → Bool) → (ℕ → Ledger → Ledger) → ℕ → Sweep → Sweep
turn due close i s = cond (ltb 0 s.room && due s.tables i) (one_more s (close i s.tables)) s

abbrev pub closed_rows : (ℕ → Ledger → Ledger) → ℕ → ℕ → Ledger → List ℕ → Sweep
closed_rows close limit c L ds = record { room = limit - length ds; closed = c + length ds; tables = close_all close ds L }

module _ (due : Ledger → ℕ → Bool) (close : ℕ → Ledger → Ledger) (Ok : Ledger → Type 0) (keeps : (L : Ledger) (i : ℕ) → Ok L → Ok (close i L))
    (frame : (L : Ledger) → Ok L → (i j : ℕ) → j ≢ i → due (close i L) j ≡ due L j) where
  close_frame : (n : ℕ) (ds : List ℕ) → AllBelow n ds → (L : Ledger) → Ok L → due (close_all close ds L) n ≡ due L n
  close_frame n [] b L x = refl
  close_frame n (d ∷ ds) b L x = close_frame n ds b.1 (close d L) (keeps L d x) ∙ frame L x d n (omega (arith, b.0))

  one_turn : (limit c : ℕ) (L : Ledger) → Ok L → (n : ℕ) (b : Bool) → due L n ≡ b
      → turn due close n (closed_rows close limit c L (take limit (those n (due L))))
      ≡ closed_rows close limit c L (take limit (those n (due L) ++ cond b (n ∷ []) []))
  one_turn limit c L x n b e = go b e (dec_lt (length D) limit)
    where
      D : List ℕ
      D = those n (due L)

      S : Sweep
      S = closed_rows close limit c L (take limit D)

      same_due : due S.tables n ≡ due L n
      same_due = close_frame n (take limit D) (below_take n limit D (below_those n (due L))) L x

      by_test : (t : Bool) → (ltb 0 S.room && due S.tables n) ≡ t → turn due close n S ≡ cond t (one_more S (close n S.tables)) S
      by_test t h = ap (λ (y : Bool). cond y (one_more S (close n S.tables)) S) h

      go : (b : Bool) → due L n ≡ b → Dec (length D < limit) → turn due close n S ≡ closed_rows close limit c L (take limit (D ++ cond b (n ∷ []) []))
      -- not due
      go false e d =
          by_test false (and_none_snd (ltb 0 S.room) (due S.tables n) (same_due ∙ e))
          ∙ ap (λ (l : List ℕ). closed_rows close limit c L (take limit l)) (sym (append-nil D))
      -- due, and there is room
      go true e (yes h) =
          let e1 : take limit D ≡ D = take_all limit D (omega arith) in
          let m : length (D ++ (n ∷ [])) ≡ length D + 1 = length-append D (n ∷ []) in
          let e2 : take limit (D ++ (n ∷ [])) ≡ D ++ (n ∷ []) = take_all limit (D ++ (n ∷ [])) (omega arith) in
          let l1 : length (take limit D) ≡ length D = ap length e1 in
          let l2 : length (take limit (D ++ (n ∷ []))) ≡ length D + 1 = ap length e2 ∙ m in
          let r : limit - length (take limit D) - 1 ≡ limit - length (take limit (D ++ (n ∷ []))) = omega arith in
          let k : c + length (take limit D) + 1 ≡ c + length (take limit (D ++ (n ∷ []))) = omega arith in
          let t : close n (close_all close (take limit D) L) ≡ close_all close (take limit (D ++ (n ∷ []))) L =
          ap (λ (l : List ℕ). close n (close_all close l L)) e1 ∙ sym (close_append close D (n ∷ []) L) ∙ ap (λ (l : List ℕ). close_all close l L) (sym e2) in
          by_test true (and_intro (ltb 0 S.room) (due S.tables n) (lt-ltb 0 S.room (omega (arith, h, l1))) (same_due ∙ e))
          ∙ (λ i. record { room = r i; closed = k i; tables = t i })
      -- due, and there is none
      go true e (no h) =
          let z : limit - length (take limit D) ≡ 0 = omega (arith, h, length-take limit D) in
          by_test false (and_none_fst (ltb 0 S.room) (due S.tables n) (le-ltb 0 S.room (omega (arith, z))))
          ∙ ap (closed_rows close limit c L) (sym (take-append-le limit D (n ∷ []) (omega (arith, h))))

  pub turns : (limit c : ℕ) (L : Ledger) → Ok L → (n : ℕ)
      → loop n (turn due close) (record { room = limit; closed = c; tables = L }) ≡ closed_rows close limit c L (take limit (those n (due L)))
  unfolding loop those
  turns limit c L x zero =
      let r : limit ≡ limit - 0 = omega arith in
      let k : c ≡ c + 0 = omega arith in
      (λ i. record { room = r i; closed = k i; tables = L }) ∙ ap (closed_rows close limit c L) (sym (take-nil limit))
  turns limit c L x (suc n) = ap (turn due close n) (turns limit c L x n) ∙ one_turn limit c L x n (due L n) refl
