-- What one receipt releases and one escrow expires, each way that the code finds out: the words that it has read are those of the tables, and
-- what it has tested decides the definition's test.
use mathlib.Core.Path.{◌≡◌, refl, sym, ap, ap₂, ◌∙◌}
use mathlib.Core.Logic.{◌≢◌}
use mathlib.Core.List.{List, []}
use mathlib.Core.Bool.{Bool, true, false, not, cond, ◌&&◌}
use Prim.Native.Nat.{ℕ, ◌-◌, ◌≤◌}
use lib.ListN.{get_or, set}
use lib.Dec.{eqb, ltb, leb}
use borrow.Author.Tests.{eq-eqb, ne_eqb}
use Rattle.std.specs.Prelude.{Option, Some, None}
use native.Mathlib.Omega.{arith}
use Rattle.rules.specs.Limits.{MAX_ESCROWS, RECEIPT_LEN, IS_OPEN, PENDING, ESCROW_AMOUNT, ESCROW_DEADLINE, ESCROW_STATE, RECEIPT_LINK, ACCEPTANCE_DEADLINE, AUTO_ACCEPT, RECEIPT_STATE}
use Rattle.rules.specs.Table.{word}
use Rattle.rules.specs.Ledger.{Ledger, ledger_of, set_edition, set_escrows}
use Rattle.rules.specs.Refusals.{releasable}
use Rattle.rules.specs.declared.Edition.{Edition}
use Rattle.rules.specs.declared.EscrowNumber.{EscrowNumber}
use Rattle.rows.specs.Numbered.{Names}
use Rattle.moves.specs.Needs.{link_of}
use Rattle.moves.proofs.Accepts.{some_link}
use Rattle.adding.specs.Needs.{Links}
use Rattle.rules.proofs.Bools.{and_intro, and_fst, and_snd, and_none_fst, and_none_snd}
use Rattle.adding.specs.Turns.{linked, freed, frees_now, freed_now, marked_now, closes, closed_turn, closed_marks, expires, expired_turn}

-- c says whether the escrow in row i is open and not stale
abbrev Tested : Edition → List ℕ → Bool → ℕ → ℕ → Type 0
Tested ed e c time i = (K : Ledger) → c ≡ releasable (set_escrows e (set_edition ed K)) time i

-- the number of an escrow that a receipt links: it names the escrow, and has its place among the marks
pub record Linked (r : List ℕ) (i number : ℕ) : Type 0 where
  pub link_is : number ≡ word r RECEIPT_LEN i RECEIPT_LINK
  pub link_ne : number ≢ 0
  pub high : number ≤ MAX_ESCROWS
  pub names : Names number

pub linked_so : (ed : Edition) (r : List ℕ) (i : ℕ) (o : Option EscrowNumber) (l : EscrowNumber) → Links ed r i → o ≡ link_of r i → o ≡ Some l → Linked r i l.0
linked_so ed r i o l a e f =
    let says = some_link r i o e l f in
    let low : 1 ≤ l.0 = omega (arith, says.link_ne) in
    let high : l.0 ≤ MAX_ESCROWS = omega (arith, says.link_is, a.link) in
    record {
      link_is = says.link_is;
      link_ne = says.link_ne;
      high = high;
      names = record { low = low; high = omega (arith, high) };
    }

-- a receipt that is accepted
module _ (ed : Edition) (e r : List ℕ) (time i link : ℕ) (p : link ≡ word r RECEIPT_LEN i RECEIPT_LINK) where
  pub freed_no_link : link ≡ 0 → 0 ≡ freed ed e r time i
  unfolding freed
  freed_no_link z = rw (eq-eqb _ _ (sym p ∙ z))

  pub freed_linked : (c : Bool) (amount x : ℕ) → link ≢ 0 → amount ≡ word e ed.escrow (link - 1) ESCROW_AMOUNT → Tested ed e c time (link - 1)
      → x ≡ cond c amount 0 → x ≡ freed ed e r time i
  unfolding freed
  freed_linked c amount x ne q y z = rw (← p, ne_eqb _ _ ne, ← y (ledger_of ed [] [] [] [] []), ← q) z

-- a due receipt of a sweep
module _ (ed : Edition) (e r : List ℕ) (marks : List Bool) (time i : ℕ) where
  none_freed : frees_now ed e r marks time i ≡ false → (0 ≡ freed_now ed e r marks time i) × (marks ≡ marked_now ed e r marks time i)
  unfolding freed_now marked_now
  none_freed t = (
    ap (λ (d : Bool). cond d (word e ed.escrow (linked r i) ESCROW_AMOUNT) 0) (sym t),
    ap (λ (d : Bool). cond d (set marks (linked r i) true) marks) (sym t),
  )

  pub not_auto : (auto : ℕ) → auto ≡ word r RECEIPT_LEN i AUTO_ACCEPT → (auto ≡ 1 → ⊥)
      → (0 ≡ freed_now ed e r marks time i) × (marks ≡ marked_now ed e r marks time i)
  not_auto auto a ne = none_freed (and_none_fst (eqb (word r RECEIPT_LEN i AUTO_ACCEPT) 1) _ (ap (λ (k : ℕ). eqb k 1) (sym a) ∙ ne_eqb auto 1 ne))

  module _ (auto link : ℕ) (a : auto ≡ word r RECEIPT_LEN i AUTO_ACCEPT) (p : link ≡ word r RECEIPT_LEN i RECEIPT_LINK) where
    abbrev auto_is : Bool
    auto_is = eqb (word r RECEIPT_LEN i AUTO_ACCEPT) 1

    abbrev no_link : Bool
    no_link = eqb (word r RECEIPT_LEN i RECEIPT_LINK) 0

    abbrev is_open : Bool
    is_open = eqb (word e ed.escrow (linked r i) ESCROW_STATE) IS_OPEN

    abbrev unmarked : Bool
    unmarked = not (get_or marks (linked r i) false)

    abbrev fresh : Bool
    fresh = leb time (word e ed.escrow (linked r i) ESCROW_DEADLINE)

    -- the rest of the test
    rest_fails : (is_open && unmarked) && fresh ≡ false → (0 ≡ freed_now ed e r marks time i) × (marks ≡ marked_now ed e r marks time i)
    rest_fails t = none_freed (and_none_snd auto_is _ (and_none_snd (not no_link) _ t))

    pub not_linked : link ≡ 0 → (0 ≡ freed_now ed e r marks time i) × (marks ≡ marked_now ed e r marks time i)
    not_linked z = none_freed (and_none_snd auto_is _ (and_none_fst (not no_link) _ (ap not (eq-eqb _ _ (sym p ∙ z)))))

    -- an earlier receipt has released it
    pub was_marked : get_or marks (link - 1) false ≡ true → (0 ≡ freed_now ed e r marks time i) × (marks ≡ marked_now ed e r marks time i)
    was_marked t =
        rest_fails (and_none_fst (is_open && unmarked) fresh (and_none_snd is_open unmarked
        (ap (λ (k : ℕ). not (get_or marks (k - 1) false)) (sym p) ∙ ap not t)))

    middle : (x y z : Bool) → x && z ≡ false → (x && y) && z ≡ false
    middle false y z h = refl
    middle true y z h = and_none_snd y z h

    tested : (c : Bool) → Tested ed e c time (link - 1) → (is_open && fresh) ≡ c
    tested c y = ap (λ (k : ℕ). releasable (ledger_of ed [] [] e [] []) time (k - 1)) (sym p) ∙ sym (y (ledger_of ed [] [] [] [] []))

    pub not_fresh : (c : Bool) → Tested ed e c time (link - 1) → c ≡ false → (0 ≡ freed_now ed e r marks time i) × (marks ≡ marked_now ed e r marks time i)
    not_fresh c y z = rest_fails (middle is_open unmarked fresh (tested c y ∙ z))

    -- it is released, and marked
    pub released_now : (c : Bool) (x : ℕ) (marks₁ : List Bool) → auto ≡ 1 → link ≢ 0 → get_or marks (link - 1) false ≡ false → Tested ed e c time (link - 1) → c ≡ true
        → x ≡ word e ed.escrow (link - 1) ESCROW_AMOUNT → marks₁ ≡ set marks (link - 1) true
        → (x ≡ freed_now ed e r marks time i) × (marks₁ ≡ marked_now ed e r marks time i)
    unfolding freed_now marked_now
    released_now c x marks₁ one ne m y z q s =
        let both = tested c y ∙ z in
        let t : frees_now ed e r marks time i ≡ true =
        and_intro auto_is _ (eq-eqb _ _ (sym a ∙ one)) (and_intro (not no_link) _ (ap not (ap (λ (k : ℕ). eqb k 0) (sym p) ∙ ne_eqb link 0 ne))
        (and_intro (is_open && unmarked) fresh
        (and_intro is_open unmarked (and_fst is_open fresh both) (ap (λ (k : ℕ). not (get_or marks (k - 1) false)) (sym p) ∙ ap not m))
        (and_snd is_open fresh both))) in (
          q ∙ ap (λ (k : ℕ). word e ed.escrow (k - 1) ESCROW_AMOUNT) p ∙ ap (λ (d : Bool). cond d (word e ed.escrow (linked r i) ESCROW_AMOUNT) 0) (sym t),
          s ∙ ap (λ (k : ℕ). set marks (k - 1) true) p ∙ ap (λ (d : Bool). cond d (set marks (linked r i) true) marks) (sym t),
        )

-- a receipt of a sweep
module _ (ed : Edition) (e r : List ℕ) (marks : List Bool) (time i state deadline : ℕ) (b : Bool)
    (p : state ≡ word r RECEIPT_LEN i RECEIPT_STATE) (d : deadline ≡ word r RECEIPT_LEN i ACCEPTANCE_DEADLINE)
    (x : b ≡ (eqb state PENDING && ltb deadline time)) where
  closes_so : b ≡ closes r time i
  closes_so = x ∙ ap₂ (λ (s t : ℕ). eqb s PENDING && ltb t time) p d

  pub turn_closed : (amount : ℕ) (marks₁ : List Bool) → b ≡ true → amount ≡ freed_now ed e r marks time i → marks₁ ≡ marked_now ed e r marks time i
      → (Some amount ≡ closed_turn ed e r marks time i) × (marks₁ ≡ closed_marks ed e r marks time i)
  unfolding closed_turn closed_marks
  turn_closed amount marks₁ t q m =
      let due : true ≡ closes r time i = sym t ∙ closes_so in (
        ap (λ (k : ℕ). Some k) q ∙ ap (λ (c : Bool). cond c (Some (freed_now ed e r marks time i)) None) due,
        m ∙ ap (λ (c : Bool). cond c (marked_now ed e r marks time i) marks) due,
      )

  pub turn_passed : b ≡ false → (None ≡ closed_turn ed e r marks time i) × (marks ≡ closed_marks ed e r marks time i)
  unfolding closed_turn closed_marks
  turn_passed t =
      let due : false ≡ closes r time i = sym t ∙ closes_so in (
        ap (λ (c : Bool). cond c (Some (freed_now ed e r marks time i)) None) due,
        ap (λ (c : Bool). cond c (marked_now ed e r marks time i) marks) due,
      )

-- an escrow of a sweep
module _ (ed : Edition) (e : List ℕ) (time i state deadline : ℕ) (b : Bool)
    (p : state ≡ word e ed.escrow i ESCROW_STATE) (d : deadline ≡ word e ed.escrow i ESCROW_DEADLINE)
    (x : b ≡ (eqb state IS_OPEN && ltb deadline time)) where
  expires_so : b ≡ expires ed e time i
  expires_so = x ∙ ap₂ (λ (s t : ℕ). eqb s IS_OPEN && ltb t time) p d

  pub escrow_expired : (amount : ℕ) → b ≡ true → amount ≡ word e ed.escrow i ESCROW_AMOUNT → Some amount ≡ expired_turn ed e time i
  unfolding expired_turn
  escrow_expired amount t q =
      ap (λ (k : ℕ). Some k) q ∙ ap (λ (c : Bool). cond c (Some (word e ed.escrow i ESCROW_AMOUNT)) None) (sym t ∙ expires_so)

  pub escrow_passed : b ≡ false → None ≡ expired_turn ed e time i
  unfolding expired_turn
  escrow_passed t = ap (λ (c : Bool). cond c (Some (word e ed.escrow i ESCROW_AMOUNT)) None) (sym t ∙ expires_so)
