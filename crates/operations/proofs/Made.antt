-- A wallet that is made where it is missing leaves every row where it was, every word of it, and the other words of the header; the new
-- wallet is found where the search for it had ended. So rows are looked up once, before it is made.
use mathlib.Core.Path.{◌≡◌, refl, sym, ap, ◌∙◌, subst}
use mathlib.Core.Logic.{◌≢◌}
use mathlib.Core.List.{List, []}
use Prim.Native.Nat.{ℕ, ◌+◌, ◌-◌, ◌<◌, ◌≤◌, ◌^◌}
use native.Mathlib.Omega.{arith}
use lib.ListN.{length, get_or, set, length-set}
use lib.Seq.{get_or-set_same, get_or-set_other}
use lib.Dec.{lit<}
use borrow.Author.Tests.{ltb-true, ltb-false}
use Rattle.rules.specs.Limits.{WALLET_LEN, MAX_GRANTED_MICRO, WALLETS, BALANCE, GRANTED}
use Rattle.rules.specs.Table.{word, put_row}
use Rattle.rules.specs.Ledger.{Ledger, ledger, row_of, has_wallet, put_head, new_wallet, put_wallet}
use Rattle.rules.specs.Settle.{blank_wallet, ensure_wallet, raise, grant, done}
use Rattle.rules.specs.declared.Submission.{Submission}
use Rattle.rules.proofs.Bools.{cond_case}
use Rattle.rules.proofs.Rows.{room, word_old, word_new}
use Rattle.rules.proofs.Accounts.{row_le, new_row_old, new_row_id}
use Rattle.rules.proofs.UpTo.{up_to_wallets}
use Rattle.rows.specs.Numbered.{Names}
use Rattle.moves.specs.Needs.{row_in, more}
use Rattle.moves.proofs.Wallets.{row_at, wallet_named}
use Rattle.operations.specs.Needs.{Receiving, Granting}

-- h₁ and w₁ are h and w with a wallet of id
pub record Made (h w h₁ w₁ : List ℕ) (id : ℕ) : Type 0 where
  pub whole : length h₁ ≡ length h
  pub self : row_in h₁ w₁ id ≡ row_in h w id
  pub rows : (v : ℕ) → row_in h w v < get_or h WALLETS 0 → row_in h₁ w₁ v ≡ row_in h w v
  pub words : (i k : ℕ) → i < get_or h WALLETS 0 → k < WALLET_LEN → word w₁ WALLET_LEN i k ≡ word w WALLET_LEN i k
  pub balance : word w₁ WALLET_LEN (row_in h w id) BALANCE ≤ MAX_GRANTED_MICRO
  pub others : (k : ℕ) → k ≢ WALLETS → get_or h₁ k 0 ≡ get_or h k 0

-- what ensure_wallet says of the tables that it leaves
abbrev pub Ensures : List ℕ → List ℕ → List ℕ → List ℕ → ℕ → Type 0
Ensures h w h₁ w₁ id = (K : Ledger) → up_to_wallets K h₁ w₁ ≡ ensure_wallet id (up_to_wallets K h w)

-- it says it of any ledger: what follows for header and wallets follows from one
abbrev pub some_ledger : Ledger
some_ledger = ledger [] [] [] [] []

module _ (h w : List ℕ) (s : Submission) (ready : Receiving h w s) where
  made_new : get_or h WALLETS 0 ≤ row_in h w s.target
      → Made h w (set h WALLETS (get_or h WALLETS 0 + 1)) (put_row w WALLET_LEN (get_or h WALLETS 0) (blank_wallet s.target)) s.target
  made_new l =
      let n : ℕ = get_or h WALLETS 0 in
      let new : List ℕ = blank_wallet s.target in
      let w₁ : List ℕ = put_row w WALLET_LEN n new in
      let fits = room WALLET_LEN n w (ready.place l) in
      let m : row_of w n s.target ≡ n = omega (arith, row_le w n s.target) in
      let count : get_or (set h WALLETS (n + 1)) WALLETS 0 ≡ n + 1 = get_or-set_same h WALLETS (n + 1) 0 (omega (arith, ready.counted.whole)) in
      record {
        whole = length-set h WALLETS (n + 1);
        self = ap (λ (k : ℕ). row_of w₁ k s.target) count ∙ new_row_id w n s.target new refl refl refl refl fits m ∙ sym m;
        rows = λ v l. ap (λ (k : ℕ). row_of w₁ k v) count ∙ new_row_old w n s.target new refl refl refl refl fits m v l;
        words = λ i k l k<. word_old w WALLET_LEN n i k new l k<;
        balance = subst (λ (i : ℕ). word w₁ WALLET_LEN i BALANCE ≤ MAX_GRANTED_MICRO) (sym m) (omega (arith, word_new w WALLET_LEN n BALANCE new fits (lit< tt)));
        others = λ k ne. get_or-set_other h WALLETS k (n + 1) 0 ne;
      }

  made_found : row_in h w s.target < get_or h WALLETS 0 → Made h w h w s.target
  made_found l = record {
    whole = refl;
    self = refl;
    rows = λ v l. refl;
    words = λ i k l k<. refl;
    balance = ready.balances (row_in h w s.target) l;
    others = λ k ne. refl;
  }

  pub made_by :
      (K : Ledger)
      → Made h w (ensure_wallet s.target (up_to_wallets K h w)).header (ensure_wallet s.target (up_to_wallets K h w)).wallets s.target
  unfolding ensure_wallet new_wallet put_head
  made_by K =
      cond_case (λ (L : Ledger). Made h w L.header L.wallets s.target) (has_wallet (up_to_wallets K h w) s.target) _ _
      (λ x. made_found (ltb-true _ _ x)) (λ x. made_new (ltb-false _ _ x))

  -- the same of the tables that ensure_wallet leaves
  pub made : (h₁ w₁ : List ℕ) → Ensures h w h₁ w₁ s.target → Made h w h₁ w₁ s.target
  made h₁ w₁ q = subst (λ (L : Ledger). Made h w L.header L.wallets s.target) (sym (q some_ledger)) (made_by some_ledger)

-- a grant
module _ (h w h₁ w₁ : List ℕ) (s : Submission) (target : ℕ) (ready : Granting h w s) (x : target ≡ row_in h w s.target + 1)
    (q : Ensures h w h₁ w₁ s.target) where
  pub can_grant : Names target × (BALANCE < 2 ^ 16) × (word w₁ WALLET_LEN (target - 1) BALANCE + s.amount < 2 ^ 64)
  can_grant =
      let b : word w₁ WALLET_LEN (target - 1) BALANCE ≤ MAX_GRANTED_MICRO = rw (row_at h w s.target target x) (made h w s ready.receiving h₁ w₁ q).balance in
      (wallet_named h w s.target target ready.receiving.counted x, lit< tt, omega (arith, ready.receiving.amount))

  pub granted_by :
      (w₂ : List ℕ)
      → w₂ ≡ more w₁ (target - 1) BALANCE s.amount
      → (K : Ledger) → done 0 (up_to_wallets K (set h₁ GRANTED (get_or h GRANTED 0 + s.amount)) w₂) ≡ grant s (up_to_wallets K h w)
  unfolding grant put_head raise put_wallet
  granted_by w₂ y K = rw (← q K, (made h w s ready.receiving h₁ w₁ q).self, y, row_at h w s.target target x)
