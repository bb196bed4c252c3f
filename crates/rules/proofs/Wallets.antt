-- Looking up a wallet, by its three cases: what is shown of each is shown of what is found, and what is found says which of them it is.
use mathlib.Core.Path.{◌≡◌, refl, sym, subst}
use mathlib.Core.List.{List}
use mathlib.Core.Bool.{true, false, cond}
use Prim.Native.Nat.{ℕ, ◌+◌}
use lib.Dec.{ltb}
use Rattle.rules.specs.Ledger.{row_of}
use Rattle.rules.specs.Wallets.{numbered, closed_at, look_up}
use Rattle.rules.specs.declared.WalletNumber.{WalletNumber}
use Rattle.rules.specs.declared.WalletState.{WalletState}
use Rattle.rules.specs.declared.WalletState.TheVariants.{Missing, Live, Closed}
use Rattle.rules.proofs.Bools.{cond_case}

pub look_case : (P : WalletState → Type 0) (w : List ℕ) (n id : ℕ)
    → (ltb (row_of w n id) n ≡ false → P Missing)
    → (ltb (row_of w n id) n ≡ true → closed_at w (row_of w n id) ≡ false → P (Live (numbered (row_of w n id))))
    → (ltb (row_of w n id) n ≡ true → closed_at w (row_of w n id) ≡ true → P (Closed (numbered (row_of w n id))))
    → P (look_up w n id)
unfolding look_up
look_case P w n id missing live closed =
    cond_case P (ltb (row_of w n id) n) (cond (closed_at w (row_of w n id)) (Closed (numbered (row_of w n id))) (Live (numbered (row_of w n id)))) Missing
    (λ e. cond_case P (closed_at w (row_of w n id)) (Closed (numbered (row_of w n id))) (Live (numbered (row_of w n id))) (λ q. closed e q) (λ q. live e q)) missing

-- what each case says of the row
abbrev pub Says : List ℕ → ℕ → ℕ → WalletState → Type 0
Says w n id Missing = ltb (row_of w n id) n ≡ false
Says w n id (Live k) = (ltb (row_of w n id) n ≡ true) × (closed_at w (row_of w n id) ≡ false) × (k.0 ≡ row_of w n id + 1)
Says w n id (Closed k) = (ltb (row_of w n id) n ≡ true) × (closed_at w (row_of w n id) ≡ true) × (k.0 ≡ row_of w n id + 1)

pub look_says : (w : List ℕ) (n id : ℕ) (x : WalletState) → x ≡ look_up w n id → Says w n id x
look_says w n id x e = subst (Says w n id) (sym e) (look_case (Says w n id) w n id (λ m. m) (λ t o. (t, o, refl)) (λ t o. (t, o, refl)))

-- of a live wallet, by its number
pub live_row : (w : List ℕ) (n id : ℕ) (k : WalletNumber) → Live k ≡ look_up w n id → k.0 ≡ row_of w n id + 1
live_row w n id k e = (look_says w n id (Live k) e).2
