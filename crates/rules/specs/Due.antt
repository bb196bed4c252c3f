-- What is due before a sweep, in its order: the rows that it will close.
use Rattle.std.specs.Prelude.{List, [], ◌∷◌, ◌++◌, Bool, cond, ℕ, zero, suc, ◌+◌, ◌-◌, length, take}
use Rattle.rules.specs.Ledger.{Ledger, escrow_count, receipt_count}
use Rattle.rules.specs.Settle.{due_receipt, due_escrow, close_due_receipt, close_due_escrow}

-- the numbers below n of which p holds, in order
unfoldable pub those : ℕ → (ℕ → Bool) → List ℕ
those zero p = []
those (suc n) p = those n p ++ cond (p n) (n ∷ []) []

abbrev pub due_receipts : Ledger → ℕ → List ℕ
due_receipts L now = those (receipt_count L) (λ i. due_receipt L now i)

abbrev pub due_escrows : Ledger → ℕ → List ℕ
due_escrows L now = those (escrow_count L) (λ i. due_escrow L now i)

-- how many rows are due
abbrev pub due : Ledger → ℕ → ℕ
due L now = length (due_receipts L now) + length (due_escrows L now)

-- rows closed one after the other
abbrev pub close_all : (ℕ → Ledger → Ledger) → List ℕ → Ledger → Ledger
close_all close [] L = L
close_all close (i ∷ is) L = close_all close is (close i L)

-- the first `limit` of the due rows closed: receipts first, then escrows with the room that is left
abbrev pub first_due_closed : ℕ → ℕ → Ledger → Ledger
first_due_closed now limit L =
    let rs = take limit (due_receipts L now) in
    close_all (close_due_escrow now) (take (limit - length rs) (due_escrows L now)) (close_all (close_due_receipt now) rs L)
