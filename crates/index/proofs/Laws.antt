-- Laws of ids that are copied, and of numbers that stand in for a first row.
use mathlib.Core.Path.{◌≡◌, refl, sym, ap, ◌∙◌}
use mathlib.Core.Bool.{Bool, true, false, cond}
use mathlib.Core.List.{List}
use Prim.Native.Nat.{ℕ, ◌+◌, ◌-◌, ◌<◌}
use native.Mathlib.Omega.{arith}
use lib.Dec.{ltb}
use lib.ListN.{get_or}
use borrow.Author.Tests.{lt-ltb}
use Rattle.std.specs.Prelude.{Option, None, Some, IfSome, MatchOption}
use Rattle.std.specs.Option.{option_and}
use Rattle.rules.specs.Wallets.{numbered}
use Rattle.rules.specs.declared.WalletNumber.{WalletNumber}
use Rattle.rules.specs.Limits.{WALLET_LEN, ID}
use Rattle.rules.specs.Table.{word, distinct}
use Rattle.rules.specs.Ledger.{row_of}
use Rattle.rules.proofs.Counts.{distinct_ext}
use Rattle.rules.proofs.Accounts.{first_row}
use Rattle.index.specs.Index.{id_at, Hit, Indexed, number_of, sender_of}

-- where ids differ as copied, they differ in the table
pub indexed_apart : (w : List ℕ) (n : ℕ) (ids t : List ℕ) → Indexed w n ids t → distinct n (λ i. word w WALLET_LEN i ID) ≡ true
indexed_apart w n ids t c = sym (distinct_ext n (id_at ids) (λ i. word w WALLET_LEN i ID) c.copied.same) ∙ c.apart

-- the number of a wallet: from its first row, from a search, where there is none, and from a hit
pub number_found : (w : List ℕ) (n x : ℕ) (number : WalletNumber) → ltb (row_of w n x) n ≡ true → number.0 ≡ row_of w n x + 1
    → Some number ≡ number_of w n x
unfolding number_of
number_found w n x number h e = rw (h, ← e)

pub number_none : (w : List ℕ) (n x : ℕ) → ltb (row_of w n x) n ≡ false → None ≡ number_of w n x
unfolding number_of
number_none w n x h = rw h

pub number_hit : (w : List ℕ) (n : ℕ) (ids t : List ℕ) (x : ℕ) (number : WalletNumber) → Indexed w n ids t → Hit ids n x number.0
    → Some number ≡ number_of w n x
number_hit w n ids t x number c h =
    let k : ℕ = number.0 - 1 in
    let m : k + 1 ≡ number.0 = omega (arith, h.low) in
    let l : k < n = omega (arith, h.low, h.high) in
    let e : word w WALLET_LEN k ID ≡ x = sym (c.copied.same k l) ∙ ap (λ i. get_or ids i 0) m ∙ h.has in
    let f : row_of w n x ≡ k = first_row w n x k (indexed_apart w n ids t c) l e in
    number_found w n x number (lt-ltb _ _ (omega arith)) (omega arith)

-- what the index proposes, or else what P gives
pub proposed_or : (w : List ℕ) (n : ℕ) (ids t : List ℕ) (x : ℕ) {P : Type 0} (o r : Option WalletNumber) → Indexed w n ids t
    → IfSome o (λ number. Hit ids n x number.0) → (P → r ≡ number_of w n x) → MatchOption o P (λ v. r ≡ Some v) → r ≡ number_of w n x
proposed_or w n ids t x None r c h f m = f m
proposed_or w n ids t x (Some number) r c h f m = m ∙ number_hit w n ids t x number c h

-- the sender's number, where the recipient has a wallet and where it has none
pub sender_and : (w : List ℕ) (n from to : ℕ) (a b : Option WalletNumber) → a ≡ number_of w n from → b ≡ number_of w n to
    → option_and b a ≡ sender_of w n from to
unfolding number_of sender_of
sender_and w n from to a b f e = rw (e, f) (go (ltb (row_of w n to) n))
  where
    go : (t : Bool) → option_and (cond t (Some (numbered (row_of w n to))) None) (number_of w n from) ≡ cond t (number_of w n from) None
    go true = refl
    go false = refl
