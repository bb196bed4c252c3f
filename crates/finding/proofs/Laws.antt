-- What the checks and the operations use of the parties that were found: where the operation names a wallet, it was looked up.
use mathlib.Core.Path.{◌≡◌, ap, ◌∙◌}
use mathlib.Core.List.{List}
use mathlib.Core.Bool.{Bool, true}
use Prim.Native.Nat.{ℕ}
use lib.ListN.{get_or}
use Rattle.rules.specs.Limits.{WALLETS}
use Rattle.rules.specs.Refusals.{one_of, signs, targets}
use Rattle.rules.specs.Wallets.{look_up}
use Rattle.rules.specs.declared.Submission.{Submission}
use Rattle.rules.specs.declared.WalletState.{WalletState}
use Rattle.finding.specs.declared.Parties.{Parties}
use Rattle.finding.specs.Parties.{look_up_if, parties_of}

pub asked : (b : Bool) (wallets : List ℕ) (n id : ℕ) → b ≡ true → look_up_if b wallets n id ≡ look_up wallets n id
asked b wallets n id e = rw e

-- what the code finds by the two tests
pub by_parties : (h w : List ℕ) (s : Submission) {signs_it targets_it : Bool} {signer target : WalletState}
    → signs_it ≡ one_of signs s.op
    → targets_it ≡ one_of targets s.op
    → signer ≡ look_up_if signs_it w (get_or h WALLETS 0) s.signer
    → target ≡ look_up_if targets_it w (get_or h WALLETS 0) s.target
    → record { signer = signer; target = target } ≡ parties_of h w s
unfolding parties_of
by_parties h w s p q a b = rw (a, b, p, q)

module _ (header wallets : List ℕ) (s : Submission) {p : Parties} (found : p ≡ parties_of header wallets s) where
  pub signer_found : one_of signs s.op ≡ true → p.signer ≡ look_up wallets (get_or header WALLETS 0) s.signer
  unfolding parties_of
  signer_found e = ap (λ (x : Parties). x.signer) found ∙ asked _ wallets _ _ e

  pub target_found : one_of targets s.op ≡ true → p.target ≡ look_up wallets (get_or header WALLETS 0) s.target
  unfolding parties_of
  target_found e = ap (λ (x : Parties). x.target) found ∙ asked _ wallets _ _ e
