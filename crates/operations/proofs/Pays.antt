-- A payment: the amount leaves the signer's balance, for the target's balance or for the signer's own locked. Neither wraps nor falls
-- below zero, and the wallets that were found before the target's was made stay where they are.
use mathlib.Core.Path.{◌≡◌, ap}
use mathlib.Core.List.{List, [], ◌∷◌}
use Prim.Native.Nat.{ℕ, ◌+◌, ◌-◌, ◌<◌, ◌≤◌, ◌^◌}
use native.Mathlib.Omega.{arith}
use lib.ListN.{length, get_or, set}
use lib.Dec.{lit<}
use Rattle.rules.specs.Limits.{WALLET_LEN, MAX_GRANTED_MICRO, ESCROWS, BALANCE, LOCKED, IS_OPEN}
use Rattle.rules.specs.Table.{word, put_row}
use Rattle.rules.specs.Ledger.{Ledger, put_head, new_escrow}
use Rattle.rules.specs.Settle.{transfer, open_escrow, done}
use Rattle.rules.specs.declared.Edition.{Edition}
use Rattle.rules.specs.declared.Submission.{Submission}
use Rattle.rules.proofs.UpTo.{up_to_wallets, up_to_escrows}
use Rattle.moves.specs.Needs.{Moves, row_in, more, less}
use Rattle.moves.proofs.Wallets.{row_at, wallet_named, moved}
use Rattle.operations.specs.Needs.{Paying, Opening}
use Rattle.operations.proofs.Made.{Made, Ensures, made}

-- h₁ and w₁ are h and w with a wallet of the target; the signer was found before
module _ (h w h₁ w₁ : List ℕ) (s : Submission) (signer : ℕ) (ready : Paying h w s) (x : signer ≡ row_in h w s.signer + 1)
    (q : Ensures h w h₁ w₁ s.target) where
  pub after : Made h w h₁ w₁ s.target
  after = made h w s ready.receiving h₁ w₁ q

  -- the signer's wallet is where it was, with the words that it had
  pub still : signer ≡ row_in h₁ w₁ s.signer + 1
  still = omega (arith, x, after.rows s.signer ready.signer.there)

  pub has : (k : ℕ) → k < WALLET_LEN → word w₁ WALLET_LEN (signer - 1) k ≡ word w WALLET_LEN (row_in h w s.signer) k
  has k l = rw (row_at h w s.signer signer x) (after.words (row_in h w s.signer) k ready.signer.there l)

  pub enough : s.amount ≤ word w₁ WALLET_LEN (signer - 1) BALANCE
  enough = rw (has BALANCE (lit< tt)) ready.enough

  -- a transfer
  module _ (target : ℕ) (y : target ≡ row_in h w s.target + 1) where
    pub can_transfer : Moves w₁ signer BALANCE target BALANCE s.amount
    can_transfer =
        let b : word w₁ WALLET_LEN (target - 1) BALANCE ≤ MAX_GRANTED_MICRO = rw (row_at h w s.target target y) after.balance in
        record {
          from_names = wallet_named h w s.signer signer ready.receiving.counted x;
          to_names = wallet_named h w s.target target ready.receiving.counted y;
          from_word = lit< tt;
          to_word = lit< tt;
          enough = enough;
          fits = omega (arith, ready.receiving.amount);
        }

    pub transferred :
        (w₂ : List ℕ)
        → w₂ ≡ more (less w₁ (signer - 1) BALANCE s.amount) (target - 1) BALANCE s.amount
        → (K : Ledger) → done 0 (up_to_wallets K h₁ w₂) ≡ transfer s (up_to_wallets K h w)
    unfolding transfer
    transferred w₂ z K =
        let t : target ≡ row_in h₁ w₁ s.target + 1 = omega (arith, y, after.self) in
        rw (← q K)
        (ap (done 0) (moved K h₁ w₁ w₂ s.signer signer BALANCE s.target target BALANCE s.amount (lit< tt) (omega arith) still t z))

-- an escrow opened
module _ (ed : Edition) (h w h₁ w₁ : List ℕ) (s : Submission) (signer : ℕ) (ready : Opening ed h w s) (x : signer ≡ row_in h w s.signer + 1)
    (q : Ensures h w h₁ w₁ s.target) where
  pub can_hold : Moves w₁ signer BALANCE signer LOCKED s.amount
  can_hold =
      let p = ready.paying in
      let b : word w₁ WALLET_LEN (signer - 1) LOCKED ≤ MAX_GRANTED_MICRO = rw (has h w h₁ w₁ s signer p x q LOCKED (lit< tt)) ready.locked in
      let n = wallet_named h w s.signer signer p.receiving.counted x in
      record {
        from_names = n;
        to_names = n;
        from_word = lit< tt;
        to_word = lit< tt;
        enough = enough h w h₁ w₁ s signer p x q;
        fits = omega (arith, p.receiving.amount);
      }

  pub can_open : (ESCROWS < length h₁) × (get_or h₁ ESCROWS 0 < 2 ^ 32) × (ed.escrow < 2 ^ 16) × (8 < 2 ^ 16)
  can_open =
      let m = after h w h₁ w₁ s signer ready.paying x q in (
        omega (arith, m.whole, ready.paying.receiving.counted.whole),
        omega (arith, m.others ESCROWS (omega arith), ready.escrows),
        ready.len,
        lit< tt,
      )

  pub opened :
      (w₂ h₂ e e₁ : List ℕ) (number : ℕ)
      → w₂ ≡ more (less w₁ (signer - 1) BALANCE s.amount) (signer - 1) LOCKED s.amount
      → number ≡ get_or h₁ ESCROWS 0 + 1
      → h₂ ≡ set h₁ ESCROWS (get_or h₁ ESCROWS 0 + 1)
      → e₁ ≡ put_row e ed.escrow (get_or h₁ ESCROWS 0) (s.signer ∷ s.target ∷ s.amount ∷ s.until ∷ IS_OPEN ∷ s.now ∷ 0 ∷ 0 ∷ [])
      → (K : Ledger) → done number (up_to_escrows K ed h₂ w₂ e₁) ≡ open_escrow s (up_to_escrows K ed h w e)
  unfolding open_escrow new_escrow put_head
  opened w₂ h₂ e e₁ number y n z t K =
      let p = ready.paying in
      let L = up_to_escrows K ed h w e in
      let here = still h w h₁ w₁ s signer p x q in
      rw (
        ← q L,
        ← moved L h₁ w₁ w₂ s.signer signer BALANCE s.signer signer LOCKED s.amount (lit< tt) (omega arith) here here y,
        ← (after h w h₁ w₁ s signer p x q).others ESCROWS (omega arith),
        n,
        z,
        t,
      )
