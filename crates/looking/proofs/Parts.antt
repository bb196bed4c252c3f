-- The search for a wallet, over plain values: its answer by what was tested and found.
use mathlib.Core.Path.{◌≡◌, refl, sym, ◌∙◌, subst}
use mathlib.Core.List.{List}
use mathlib.Core.Bool.{Bool, true, false, not, cond, ◌&&◌, ◌||◌, false≢true}
use Prim.Native.Nat.{ℕ}
use lib.Dec.{eqb}
use lib.ListN.{get_or}
use Rattle.rules.specs.Limits.{WALLET_LEN, MAX_WALLETS, WALLETS}
use Rattle.rules.specs.Lookup.{count_right, wallet_state}
use Rattle.rules.specs.Wallets.{look_up}
use Rattle.rules.specs.declared.Edition.{Edition}
use Rattle.rules.specs.declared.WalletState.{WalletState}
use Rattle.rules.specs.declared.WalletState.TheVariants.{Missing}
use Rattle.rules.proofs.Bools.{or_none_fst, or_none_snd, not_false_true}

-- the wallets' count is right
abbrev Right : Edition → List ℕ → List ℕ → Bool
Right ed header wallets = count_right ed.header WALLETS WALLET_LEN MAX_WALLETS header wallets

-- a wrong count and the id 0 have no wallet
pub not_asked : (ed : Edition) (header wallets : List ℕ) (id : ℕ) {right : Bool} → right ≡ Right ed header wallets → not right || eqb id 0 ≡ true
    → Missing ≡ wallet_state ed header wallets id
unfolding wallet_state
not_asked ed header wallets id x t = go (Right ed header wallets) (eqb id 0) (subst (λ (b : Bool). not b || eqb id 0 ≡ true) x t)
  where
    go : (b z : Bool) → not b || z ≡ true → Missing ≡ cond (b && not z) (look_up wallets (get_or header WALLETS 0) id) Missing
    go true true e = refl
    go true false e = absurd (false≢true e)
    go false z e = refl

-- otherwise the count is right
pub asked : (ed : Edition) (header wallets : List ℕ) (id : ℕ) {right : Bool} → right ≡ Right ed header wallets → not right || eqb id 0 ≡ false → Right ed header wallets ≡ true
asked ed header wallets id {right} x t = sym x ∙ not_false_true right (or_none_fst (not right) (eqb id 0) t)

-- and the answer is what the search found
pub searched : (ed : Edition) (header wallets : List ℕ) (id : ℕ) {right : Bool} {n : ℕ} {state : WalletState} → right ≡ Right ed header wallets
    → not right || eqb id 0 ≡ false → n ≡ get_or header WALLETS 0 → state ≡ look_up wallets n id → state ≡ wallet_state ed header wallets id
unfolding wallet_state
searched ed header wallets id {right} x t y z =
    let r = asked ed header wallets id x t in
    let i = or_none_snd (not right) (eqb id 0) t in
    rw (r, i, ← y) z
