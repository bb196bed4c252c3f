-- A receipt that is accepted, each way: no link, an escrow that is released, one that cannot be.
use mathlib.Core.Path.{◌≡◌, refl, sym, ◌∙◌, subst}
use mathlib.Core.Logic.{◌≢◌}
use mathlib.Core.List.{List, []}
use mathlib.Core.Bool.{Bool, true, false}
use Prim.Native.Nat.{ℕ, ◌-◌}
use native.Mathlib.Omega.{arith}
use lib.Dec.{eqb}
use borrow.Author.Tests.{eq-eqb, ne_eqb, eqb-true, eqb-false}
use Rattle.std.specs.Prelude.{Option, Some, None}
use Rattle.rules.specs.Limits.{RECEIPT_LEN, RECEIPT_LINK, RELEASE_CODE, RELEASE_IMPOSSIBLE, ACCEPTED, RELEASED}
use Rattle.rules.specs.Table.{word, put}
use Rattle.rules.specs.Ledger.{Ledger, ledger_of, set_edition, set_escrows, set_receipts, put_receipt}
use Rattle.rules.specs.Refusals.{releasable}
use Rattle.rules.specs.declared.Edition.{Edition}
use Rattle.rules.specs.declared.EscrowNumber.{EscrowNumber}
use Rattle.rules.specs.Settle.{end_escrow, close_receipt, accept_row, done}
use Rattle.rules.proofs.Bools.{cond_case}
use Rattle.rules.proofs.UpTo.{up_to_escrows, up_to_receipts}
use Rattle.rows.specs.Numbered.{Names}
use Rattle.moves.specs.Needs.{link_of, Accepts, Ends}

-- b says whether the escrow in row i is open and not stale
abbrev Tested : Edition → List ℕ → Bool → ℕ → ℕ → Type 0
Tested ed e b now i = (K : Ledger) → b ≡ releasable (set_escrows e (set_edition ed K)) now i

-- r₁ is the receipts with row i closed as accepted
abbrev Closed : List ℕ → List ℕ → ℕ → ℕ → ℕ → Type 0
Closed r r₁ i now signer = (K : Ledger) → set_receipts r₁ K ≡ close_receipt ACCEPTED now signer i (set_receipts r K)

-- what the escrow that is linked says of the receipt's word
module _ (r : List ℕ) (i : ℕ) (o : Option EscrowNumber) (e : o ≡ link_of r i) where
  abbrev n : ℕ
  n = word r RECEIPT_LEN i RECEIPT_LINK

  pub record Says (l : EscrowNumber) : Type 0 where
    pub link_is : l.0 ≡ n
    pub link_ne : l.0 ≢ 0

  abbrev Means : Option EscrowNumber → Type 0
  Means None = n ≡ 0
  Means (Some l) = Says l

  means : Means o
  unfolding link_of
  means = subst Means (sym e)
      (cond_case Means (eqb n 0) None (Some (record { 0 = n })) (λ t. eqb-true n 0 t) (λ f. record { link_is = refl; link_ne = eqb-false n 0 f }))

  pub some_link : (l : EscrowNumber) → o ≡ Some l → Says l
  some_link l f = subst Means f means

  pub no_link : ((l : EscrowNumber) → o ≡ Some l → ⊥) → n ≡ 0
  no_link h = go o refl
    where
      go : (p : Option EscrowNumber) → o ≡ p → n ≡ 0
      go None f = subst Means f means
      go (Some l) f = absurd (h l f)

-- a link that is not 0 names an escrow, and one that can be released can end
pub link_named :
    (ed : Edition) (h w e r : List ℕ) (now i link : ℕ) → Accepts ed h w e r now i → link ≡ word r RECEIPT_LEN i RECEIPT_LINK → link ≢ 0 → Names link
link_named ed h w e r now i link a x ne = record { low = omega (arith, ne); high = omega (arith, a.link) }

pub can_end :
    (ed : Edition) (h w e r : List ℕ) (now i link : ℕ) (b : Bool)
    → Accepts ed h w e r now i
    → link ≡ word r RECEIPT_LEN i RECEIPT_LINK
    → link ≢ 0
    → Tested ed e b now (link - 1)
    → b ≡ true
    → Names link × Ends ed h w e (link - 1)
can_end ed h w e r now i link b a x ne y z =
    let L = ledger_of ed h w e r [] in (
      link_named ed h w e r now i link a x ne,
      subst (λ (k : ℕ). Ends ed h w e (k - 1)) (sym x)
          (a.ends (λ q. ne (x ∙ q)) (subst (λ (k : ℕ). releasable L now (k - 1) ≡ true) x (sym (y L) ∙ z))),
    )

pub accepted_plain :
    (K : Ledger) (ed : Edition) (h w e r r₁ : List ℕ) (now signer i link : ℕ)
    → link ≡ word r RECEIPT_LEN i RECEIPT_LINK
    → Closed r r₁ i now signer
    → link ≡ 0
    → done 0 (up_to_receipts K ed h w e r₁) ≡ accept_row now signer i (up_to_receipts K ed h w e r)
unfolding accept_row
accepted_plain K ed h w e r r₁ now signer i link x q z = rw (eq-eqb _ _ (sym x ∙ z), q (up_to_receipts K ed h w e r))

pub accepted_released :
    (K : Ledger) (ed : Edition) (h w e r r₁ w₁ e₁ : List ℕ) (now signer i link : ℕ) (b : Bool)
    → link ≡ word r RECEIPT_LEN i RECEIPT_LINK
    → Closed r r₁ i now signer
    → link ≢ 0
    → Tested ed e b now (link - 1)
    → b ≡ true
    → ((K : Ledger) → up_to_escrows K ed h w₁ e₁
    ≡ end_escrow RELEASED now signer (link - 1) (up_to_escrows K ed h w e))
    → done link (up_to_receipts K ed h w₁ e₁ r₁) ≡ accept_row now signer i (up_to_receipts K ed h w e r)
unfolding accept_row
accepted_released K ed h w e r r₁ w₁ e₁ now signer i link b x q ne y z d =
    rw (← x, ne_eqb _ _ ne, sym (y K) ∙ z, d (up_to_receipts K ed h w e r₁), q (up_to_receipts K ed h w e r))

pub accepted_impossible :
    (K : Ledger) (ed : Edition) (h w e r r₁ r₂ : List ℕ) (now signer i link : ℕ) (b : Bool)
    → link ≡ word r RECEIPT_LEN i RECEIPT_LINK
    → Closed r r₁ i now signer
    → link ≢ 0
    → Tested ed e b now (link - 1)
    → b ≡ false
    → r₂ ≡ put r₁ RECEIPT_LEN i RELEASE_CODE RELEASE_IMPOSSIBLE
    → done 0 (up_to_receipts K ed h w e r₂) ≡ accept_row now signer i (up_to_receipts K ed h w e r)
unfolding accept_row put_receipt
accepted_impossible K ed h w e r r₁ r₂ now signer i link b x q ne y z d =
    rw (← x, ne_eqb _ _ ne, sym (y K) ∙ z, d, ← q (up_to_receipts K ed h w e r))
