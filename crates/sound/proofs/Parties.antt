-- The parties' pass as a whole: two ids that are the same, an index to go by, an escrow that is wrong, and each wallet's locked at the end.
use mathlib.Core.Path.{◌≡◌, sym, ap, ◌∙◌}
use mathlib.Core.Bool.{Bool, true, false}
use mathlib.Core.List.{List}
use Prim.Native.Nat.{ℕ, ◌+◌}
use lib.Dec.{eqb}
use lib.ListN.{replicate, length-replicate}
use Rattle.std.specs.Prelude.{Option, None, Some, is_some}
use Rattle.rules.specs.Limits.{WALLET_LEN, ID, LOCKED}
use Rattle.rules.specs.Table.{word, all, every, distinct}
use Rattle.rules.specs.Sound.{escrow_tests}
use Rattle.rules.proofs.Rows.{zeros}
use Rattle.rules.proofs.Counts.{sum_none, every_ext, distinct_ext}
use Rattle.index.specs.Index.{NUMBERS, id_at, Copied, Filled, Indexed}
use Rattle.index.proofs.Laws.{indexed_apart}
use Rattle.sound.specs.Parts.{parties, Tables, held_of, Held, HeldAll, locked_is, parties_right}

-- no escrow yet
pub held_none : (len : ℕ) (w : List ℕ) (n : ℕ) (e : List ℕ) → Held len w n e 0 (replicate NUMBERS 0)
held_none len w n e = record { room = length-replicate {A = ℕ} NUMBERS 0; sum = λ i h. zeros NUMBERS (i + 1) ∙ sym (sum_none _) }

module _ (len : ℕ) (w : List ℕ) (n : ℕ) (e : List ℕ) (m : ℕ) (ids t : List ℕ) where
  ids_agree : Copied w n ids → distinct n (id_at ids) ≡ distinct n (λ i. word w WALLET_LEN i ID)
  ids_agree c = distinct_ext n (id_at ids) (λ i. word w WALLET_LEN i ID) c.same

  pub same_ids : (r : Option ℕ) → Copied w n ids → Filled ids n t r → r ≡ None → false ≡ parties_right len w n e m
  unfolding parties_right
  same_ids r c f z =
      let d : distinct n (λ i. word w WALLET_LEN i ID) ≡ false = sym (ids_agree c) ∙ sym f.right ∙ ap is_some z in
      rw d

  pub indexed : (r : Option ℕ) (most : ℕ) → Tables len w n e m → Copied w n ids → Filled ids n t r → r ≡ Some most → Indexed w n ids t
  indexed r most b c f z =
      record {
        rows = b.wallets;
        few = b.few;
        copied = c;
        apart = sym f.right ∙ ap is_some z;
        within = f.within;
      }

  module _ (i : Indexed w n ids t) (sums : List ℕ) (r : Bool) (h : HeldAll len w n e m sums r) where
    pub wrong_escrow : r ≡ false → false ≡ parties_right len w n e m
    unfolding parties_right
    wrong_escrow z =
        let x : every m (λ i. all (escrow_tests (parties len w n e m) i)) ≡ false = sym h.right ∙ z in
        rw (indexed_apart w n ids t i, x)

    pub locked_all : r ≡ true → (b : Bool) → b ≡ every n (locked_is w sums) → b ≡ parties_right len w n e m
    unfolding parties_right
    locked_all z b q =
        let x : every m (λ i. all (escrow_tests (parties len w n e m) i)) ≡ true = sym h.right ∙ z in
        let y : every n (locked_is w sums) ≡ every n (λ i. eqb (word w WALLET_LEN i LOCKED) (held_of len w e m i)) =
        every_ext n (locked_is w sums) (λ i. eqb (word w WALLET_LEN i LOCKED) (held_of len w e m i))
        (λ i l. ap (eqb (word w WALLET_LEN i LOCKED)) ((h.held z).sum i l)) in
        rw (indexed_apart w n ids t i, x) (q ∙ y)
