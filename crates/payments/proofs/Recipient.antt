-- What a recipient's wallet decides of a grant, a transfer or an open: what the `?` behind `needs_row` hands on, and what it lets pass.
use Rattle.std.specs.Prelude.{◌≡◌, Bool, true, false, Result, Ok, Err, IsErr}
use Rattle.std.specs.Result.{IsErrAnd}
use mathlib.Core.Path.{sym, ap, ◌∙◌}
use Prim.Native.Nat.{ℕ}
use Rattle.rules.specs.Numbers.{number_of, as_number}
use Rattle.rules.specs.declared.WalletState.{WalletState}
use Rattle.rules.specs.declared.WalletState.TheVariants.{Missing, Live, Closed}
use Rattle.rules.specs.declared.refusal.Refusal.{Refusal}
use Rattle.rules.proofs.Numbers.{hands_on}
use Rattle.payments.specs.Recipient.{needs_row}

-- closed is 43; otherwise the checks behind it, told whether it needs a row
abbrev pub by_recipient : (Bool → ℕ) → WalletState → ℕ
by_recipient checks Missing = checks true
by_recipient checks (Live k) = checks false
by_recipient checks (Closed k) = 43

pub recipient_refused :
    {B : Type 0} {part : Result Bool Refusal} {r : Refusal} (whole : Result B Refusal) (checks : Bool → ℕ) (found : WalletState)
    → part ≡ needs_row found → part ≡ Err r → IsErr whole × IsErrAnd whole (λ y. y ≡ r) → as_number whole ≡ by_recipient checks found
recipient_refused {r = r} whole checks found e was q = ap as_number (hands_on whole r q) ∙ go found (sym was ∙ e) where
  go : (found : WalletState) → Err r ≡ needs_row found → number_of r ≡ by_recipient checks found
  go Missing e = cc
  go (Live k) e = cc
  go (Closed k) e = cc

pub recipient_passed :
    {part : Result Bool Refusal} {needs : Bool} (checks : Bool → ℕ) (found : WalletState)
    → part ≡ needs_row found → part ≡ Ok needs → checks needs ≡ by_recipient checks found
recipient_passed {needs = needs} checks found e was = go found (sym was ∙ e) where
  go : (found : WalletState) → Ok needs ≡ needs_row found → checks needs ≡ by_recipient checks found
  go Missing e = cc
  go (Live k) e = cc
  go (Closed k) e = cc
