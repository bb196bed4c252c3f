-- The end of an escrow: neither party's word wraps or falls below zero, and the parts leave what `end_escrow` says.
use mathlib.Core.Path.{◌≡◌, ap, ◌∙◌}
use mathlib.Core.List.{List}
use mathlib.Core.Bool.{Bool, true, false, cond}
use Prim.Native.Nat.{ℕ, ◌+◌, ◌-◌, ◌<◌, ◌^◌}
use native.Mathlib.Omega.{arith}
use lib.Dec.{eqb, lit<}
use Rattle.rules.specs.Limits.{WALLET_LEN, BALANCE, LOCKED, FROM, TO, ESCROW_AMOUNT, ESCROW_STATE, ESCROW_CLOSED_AT, ESCROW_CLOSED_BY, RELEASED}
use Rattle.rules.specs.Table.{word}
use Rattle.rules.specs.Ledger.{Ledger, set_edition, set_escrows, put_escrow}
use Rattle.rules.specs.declared.Edition.{Edition}
use Rattle.rules.specs.Settle.{raise, lower, end_escrow}
use Rattle.rules.proofs.UpTo.{up_to_wallets, up_to_escrows}
use Rattle.moves.specs.Needs.{Moves, Ends, row_in, more, less}
use Rattle.moves.proofs.Wallets.{row_at, wallet_named, moved}

module _ (ed : Edition) (h w e : List ℕ) (i from to amount sender paid state : ℕ)
    (f : from ≡ word e ed.escrow i FROM) (t : to ≡ word e ed.escrow i TO) (a : amount ≡ word e ed.escrow i ESCROW_AMOUNT)
    (s : sender ≡ row_in h w from + 1) (p : paid ≡ row_in h w (cond (eqb state RELEASED) to from) + 1) where
  takes : Ends ed h w e i → (b : Bool) → word w WALLET_LEN (row_in h w (cond b to from)) BALANCE + amount < 2 ^ 64
  takes ends true = rw (t, a) ends.paid
  takes ends false = rw (f, a) ends.back

  pub can_move : Ends ed h w e i → Moves w sender LOCKED paid BALANCE amount
  can_move ends =
      let party : ℕ = cond (eqb state RELEASED) to from in
      record {
        from_names = wallet_named h w from sender ends.counted s;
        to_names = wallet_named h w party paid ends.counted p;
        from_word = lit< tt;
        to_word = lit< tt;
        enough = rw (row_at h w from sender s, f, a) ends.held;
        fits = rw (row_at h w party paid p) (takes ends (eqb state RELEASED));
      }

  pub ended :
      (w₁ e₁ : List ℕ) (now signer : ℕ)
      → ((K : Ledger) → set_escrows e₁ (set_edition ed K)
      ≡ put_escrow i ESCROW_CLOSED_BY signer (put_escrow i ESCROW_CLOSED_AT now (put_escrow i ESCROW_STATE state (set_escrows e (set_edition ed K)))))
      → w₁ ≡ more (less w (sender - 1) LOCKED amount) (paid - 1) BALANCE amount
      → (K : Ledger) → up_to_escrows K ed h w₁ e₁ ≡ end_escrow state now signer i (up_to_escrows K ed h w e)
  unfolding end_escrow
  ended w₁ e₁ now signer x y K =
      let party : ℕ = cond (eqb state RELEASED) to from in
      rw (← f, ← t, ← a)
      (moved (up_to_escrows K ed h w e₁) h w w₁ from sender LOCKED party paid BALANCE amount (lit< tt) (omega arith) s p y
      ∙ ap (λ (L : Ledger). raise BALANCE party amount (lower LOCKED from amount L)) (x (up_to_wallets K h w)))
