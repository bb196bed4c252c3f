-- The parts together: the ledger is not sound where one part fails, and is what the last part says where all others hold.
use mathlib.Core.Path.{◌≡◌, refl, sym, ◌∙◌}
use mathlib.Core.Bool.{Bool, true, false, ◌&&◌, and-false, and-true}
use mathlib.Core.List.{List}
use Prim.Native.Nat.{ℕ}
use lib.Dec.{eqb, leb}
use Rattle.rules.specs.Limits.{GRANTED, MAX_GRANTED_MICRO, ID, LOCKED}
use Rattle.rules.specs.Table.{all, every, distinct, sum}
use Rattle.rules.specs.Ledger.{ledger_of, head, wallet, wallet_count, escrow_count, receipt_count, entry_count}
use Rattle.rules.specs.declared.Edition.{Edition}
use Rattle.rules.specs.Sound.{header_tests, wallet_tests, escrow_tests, receipt_tests, entry_tests, held_in, credits, sound}
use Rattle.rules.proofs.Bools.{and_none_fst, and_none_snd}
use Rattle.sound.specs.Parts.{wallets_in, receipts_in, entries_in, parties_right}

-- the order of the passes and that of the definition
reorder : (w t d e l r j : Bool) → w && (t && ((d && (e && l)) && (r && j))) ≡ w && (d && (e && (r && (j && (l && t)))))
reorder false t d e l r j = refl
reorder true t false e l r j = simp and-false
reorder true t true false l r j = simp and-false
reorder true t true true false r j = simp and-false
reorder true false true true true r j = simp and-false
reorder true true true true true r j = simp and-true

-- the one of five that fails, each where those before it hold or not
module _ (w t p r j s : Bool) (e : w && (t && (p && (r && j))) ≡ s) where
  fail_1 : w ≡ false → false ≡ s
  fail_1 x = sym (and_none_fst w (t && (p && (r && j))) x) ∙ e

  fail_2 : t ≡ false → false ≡ s
  fail_2 x = sym (and_none_snd w (t && (p && (r && j))) (and_none_fst t (p && (r && j)) x)) ∙ e

  fail_3 : p ≡ false → false ≡ s
  fail_3 x = sym (and_none_snd w (t && (p && (r && j))) (and_none_snd t (p && (r && j)) (and_none_fst p (r && j) x))) ∙ e

  fail_4 : r ≡ false → false ≡ s
  fail_4 x =
      sym (and_none_snd w (t && (p && (r && j))) (and_none_snd t (p && (r && j)) (and_none_snd p (r && j) (and_none_fst r j x)))) ∙ e

  last_5 : w ≡ true → t ≡ true → p ≡ true → r ≡ true → j ≡ s
  last_5 a b c d = sym (rw (a, b, c, d)) ∙ e

module _ (ed : Edition) (h w e r j : List ℕ) where
  pub no_header : (b : Bool) → b ≡ all (header_tests (ledger_of ed h w e r j)) → b ≡ false → false ≡ sound (ledger_of ed h w e r j)
  unfolding sound
  no_header b x z = let y : all (header_tests (ledger_of ed h w e r j)) ≡ false = sym x ∙ z in rw y

  -- what each pass answers for
  abbrev W : Bool
  W = every (wallet_count (ledger_of ed h w e r j)) (λ i. all (wallet_tests (wallets_in w (wallet_count (ledger_of ed h w e r j))) i))

  abbrev T : Bool
  T =
      eqb (credits (wallets_in w (wallet_count (ledger_of ed h w e r j)))) (head (ledger_of ed h w e r j) GRANTED)
      && leb (head (ledger_of ed h w e r j) GRANTED) MAX_GRANTED_MICRO

  abbrev P : Bool
  P = parties_right ed.escrow w (wallet_count (ledger_of ed h w e r j)) e (escrow_count (ledger_of ed h w e r j))

  -- its three tests
  abbrev D : Bool
  D = distinct (wallet_count (ledger_of ed h w e r j)) (λ i. wallet (ledger_of ed h w e r j) i ID)

  abbrev E : Bool
  E = every (escrow_count (ledger_of ed h w e r j)) (λ i. all (escrow_tests (ledger_of ed h w e r j) i))

  abbrev K : Bool
  K =
      every (wallet_count (ledger_of ed h w e r j))
      (λ i. eqb (wallet (ledger_of ed h w e r j) i LOCKED) (sum (escrow_count (ledger_of ed h w e r j)) (held_in (ledger_of ed h w e r j) (wallet (ledger_of ed h w e r j) i ID))))

  abbrev R : Bool
  R = every (receipt_count (ledger_of ed h w e r j)) (λ i. all (receipt_tests (receipts_in ed.escrow e (escrow_count (ledger_of ed h w e r j)) r) i))

  abbrev J : Bool
  J = every (entry_count (ledger_of ed h w e r j)) (λ i. all (entry_tests (entries_in j) i))

  module _ (y : all (header_tests (ledger_of ed h w e r j)) ≡ true) where
    whole : W && (T && (P && (R && J))) ≡ sound (ledger_of ed h w e r j)
    unfolding sound credits held_in parties_right
    whole = rw y (reorder W T D E K R J)

    pub no_wallets : (b : Bool) → b ≡ W → b ≡ false → false ≡ sound (ledger_of ed h w e r j)
    no_wallets b x z = fail_1 W T P R J _ whole (sym x ∙ z)

    pub no_total : (b : Bool) → b ≡ T → b ≡ false → false ≡ sound (ledger_of ed h w e r j)
    no_total b x z = fail_2 W T P R J _ whole (sym x ∙ z)

    pub no_parties : (b : Bool) → b ≡ P → b ≡ false → false ≡ sound (ledger_of ed h w e r j)
    no_parties b x z = fail_3 W T P R J _ whole (sym x ∙ z)

    pub no_receipts : (b : Bool) → b ≡ R → b ≡ false → false ≡ sound (ledger_of ed h w e r j)
    no_receipts b x z = fail_4 W T P R J _ whole (sym x ∙ z)

    pub the_entries : (a b c d f : Bool) → a ≡ W → a ≡ true → b ≡ T → b ≡ true → c ≡ P → c ≡ true → d ≡ R → d ≡ true
        → f ≡ J → f ≡ sound (ledger_of ed h w e r j)
    the_entries a b c d f x k y l z m u n v =
        v ∙ last_5 W T P R J _ whole (sym x ∙ k) (sym y ∙ l) (sym z ∙ m) (sym u ∙ n)
