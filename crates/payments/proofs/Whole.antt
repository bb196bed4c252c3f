-- The daily sum as a whole number, row by row: it fits a word because each counted row is a transfer or an open, of at most 10^15.
use mathlib.Core.Path.{◌≡◌, refl, sym, ◌∙◌}
use mathlib.Core.List.{List}
use mathlib.Core.Bool.{Bool, true, false, cond, ◌&&◌, ◌||◌, or-false}
use Prim.Native.Nat.{ℕ, ◌+◌, ◌*◌, ◌^◌, ◌≤◌, ◌<◌}
use native.Mathlib.Omega.{arith}
use lib.Dec.{eqb, leb}
use Rattle.rules.specs.Limits.{JOURNAL_LEN, SIGNER, OPERATION, ENTRY_AMOUNT, SETTLED_AT, TRANSFER, OPEN, DAY_MS, MAX_AMOUNT_MICRO}
use Rattle.rules.specs.Table.{word}
use Rattle.rules.proofs.Bools.{and_fst, and_snd}
use Rattle.rules.proofs.Counts.{sum_none, sum_step, sum_most}
use Rattle.payments.specs.Entries.{Entries}
use Rattle.rules.specs.Refusals.{one_of, paying, counts, counted_of}

module _ (j : List ℕ) (signer clock : ℕ) where
  -- what row i adds, and the same as the loop computes it
  abbrev pub part : ℕ → ℕ
  part i = cond (counts j signer clock i) (word j JOURNAL_LEN i ENTRY_AMOUNT) 0

  abbrev pub picked : ℕ → ℕ
  picked i =
      let pays = eqb (word j JOURNAL_LEN i OPERATION) TRANSFER || eqb (word j JOURNAL_LEN i OPERATION) OPEN in
      let recent = leb clock (word j JOURNAL_LEN i SETTLED_AT + DAY_MS) in
      cond (eqb (word j JOURNAL_LEN i SIGNER) signer && (pays && recent)) (word j JOURNAL_LEN i ENTRY_AMOUNT) 0

  picked_is : (i : ℕ) → picked i ≡ part i
  picked_is i = rw (or-false (eqb (word j JOURNAL_LEN i OPERATION) OPEN))

  pub counted_none : counted_of j 0 signer clock ≡ 0
  unfolding counted_of
  counted_none = sum_none _

  pub counted_next : (i sum more : ℕ) → sum ≡ counted_of j i signer clock → more ≡ picked i → sum + more ≡ counted_of j (i + 1) signer clock
  unfolding counted_of
  counted_next i sum more p q = rw (p, q ∙ picked_is i) (sym (sum_step i (λ i. part i)))

  pub part_most : (n : ℕ) → Entries j n → (i : ℕ) → i < n → part i ≤ MAX_AMOUNT_MICRO
  part_most n h i l = go (counts j signer clock i) refl
    where
      go : (t : Bool) → counts j signer clock i ≡ t → cond t (word j JOURNAL_LEN i ENTRY_AMOUNT) 0 ≤ MAX_AMOUNT_MICRO
      go true e =
          let pays = one_of paying (word j JOURNAL_LEN i OPERATION) in
          let recent = leb clock (word j JOURNAL_LEN i SETTLED_AT + DAY_MS) in
          let both = and_snd (eqb (word j JOURNAL_LEN i SIGNER) signer) (pays && recent) e in
          h.amounts i l (and_fst pays recent both)
      go false e = omega arith

  pub counted_most : (n : ℕ) → Entries j n → (i : ℕ) → i ≤ n → counted_of j i signer clock ≤ i * MAX_AMOUNT_MICRO
  unfolding counted_of
  counted_most n h i l = sum_most i MAX_AMOUNT_MICRO (λ i. part i) (λ k m. part_most n h k (omega arith))

  -- the sum so far and one row more fit a word
  pub counted_fits : (n : ℕ) → Entries j n → (i sum more : ℕ) → i < n → sum ≡ counted_of j i signer clock → more ≡ picked i → sum + more < 2 ^ 64
  counted_fits n h i sum more l p q = omega (arith, h.few, counted_most n h i (omega arith), part_most n h i l, picked_is i)
