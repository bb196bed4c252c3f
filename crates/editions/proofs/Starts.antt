-- Starting afresh, over plain values: the five lengths from their tests, the header that is left, and the refusal.
use mathlib.Core.Path.{◌≡◌, sym, ap, ◌∙◌}
use mathlib.Core.List.{List, ◌∷◌}
use mathlib.Core.Bool.{Bool, true, false, ◌&&◌}
use Prim.Native.Nat.{ℕ, zero, suc, ◌-◌, ◌≤◌, ◌<◌}
use native.Mathlib.Omega.{arith}
use lib.Dec.{eqb}
use lib.ListN.{length, set, replicate}
use Rattle.rules.specs.Limits.{HEADER_LEN, WALLET_LEN, RECEIPT_LEN, JOURNAL_LEN, MAX_WALLETS, MAX_ESCROWS, MAX_RECEIPTS, MAX_ENTRIES}
use Rattle.rules.specs.Table.{table_right}
use Rattle.rules.specs.Ledger.{Ledger, ledger_of, outcome, lengths_right, fresh, fresh_header}
use Rattle.rules.specs.declared.Edition.{Edition}
use Rattle.rules.proofs.Tests.{lengths_say, header_wide}

-- the five tests as the code joins them
pub lengths_by : (ed : Edition) (h w e r j : List ℕ) {wr er rr jr : Bool} → wr ≡ table_right WALLET_LEN MAX_WALLETS w → er ≡ table_right ed.escrow MAX_ESCROWS e
    → rr ≡ table_right RECEIPT_LEN MAX_RECEIPTS r → jr ≡ table_right JOURNAL_LEN MAX_ENTRIES j
    → eqb (length h) ed.header && (wr && (er && (rr && jr))) ≡ lengths_right (ledger_of ed h w e r j)
unfolding lengths_right
lengths_by ed h w e r j a b c d = rw (a, b, c, d)

pub refused : (L : Ledger) {b : Bool} → b ≡ lengths_right L → b ≡ false → outcome 1 0 L ≡ fresh L
unfolding fresh
refused L {b} x n = rw (sym x ∙ n)

-- the first word of zeros set
number_first : (n v : ℕ) → 0 < n → set (replicate n 0) 0 v ≡ v ∷ replicate (n - 1) 0
number_first zero v l = absurd (omega arith)
number_first (suc n) v l = let e : suc n - 1 ≡ n = omega arith in rw e

pub started :
    (ed : Edition) (h h' w e r j : List ℕ) {b : Bool} → HEADER_LEN ≤ ed.header → b ≡ lengths_right (ledger_of ed h w e r j) → b ≡ true
    → h' ≡ replicate (length h) 0
    → outcome 0 0 (ledger_of ed (set h' 0 ed.number) w e r j) ≡ fresh (ledger_of ed h w e r j)
unfolding fresh
started ed h h' w e r j {b} wide x n p =
    let t : lengths_right (ledger_of ed h w e r j) ≡ true = sym x ∙ n in
    let q : set h' 0 ed.number ≡ fresh_header ed =
    ap (λ (k : List ℕ). set k 0 ed.number) (p ∙ ap (λ (n : ℕ). replicate n 0) (lengths_say (ledger_of ed h w e r j) t).header)
    ∙ number_first ed.header ed.number (omega arith) in
    rw (t, q)

-- the header has all the named words
pub header_long :
    (ed : Edition) (h w e r j : List ℕ) {b : Bool} → HEADER_LEN ≤ ed.header → b ≡ lengths_right (ledger_of ed h w e r j) → b ≡ true
    → HEADER_LEN ≤ length h
header_long ed h w e r j {b} wide x n = header_wide (ledger_of ed h w e r j) (sym x ∙ n) wide
