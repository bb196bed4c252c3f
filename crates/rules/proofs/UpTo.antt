-- A ledger K with the tables up to one of them in the place of its own, in the paper's order: what a function that is lent just these finds and
-- leaves, as specs/Moments.antt says it of the lent slices.
use mathlib.Core.List.{List}
use Prim.Native.Nat.{ℕ}
use Rattle.rules.specs.Ledger.{Edition, Ledger, set_edition, set_header, set_wallets, set_escrows, set_receipts}

abbrev pub up_to_wallets : Ledger → List ℕ → List ℕ → Ledger
up_to_wallets K h w = set_wallets w (set_header h K)

abbrev pub up_to_escrows : Ledger → Edition → List ℕ → List ℕ → List ℕ → Ledger
up_to_escrows K ed h w e = set_escrows e (up_to_wallets (set_edition ed K) h w)

abbrev pub up_to_receipts : Ledger → Edition → List ℕ → List ℕ → List ℕ → List ℕ → Ledger
up_to_receipts K ed h w e r = set_receipts r (up_to_escrows K ed h w e)
