-- What is found of the wallets that a record names: each is looked up as the definitions look it up, if its operation names it.
use Rattle.std.specs.Prelude.{List, Bool, cond, ℕ, get_or}
use Rattle.rules.specs.Limits.{WALLETS}
use Rattle.rules.specs.Refusals.{one_of, signs, targets}
use Rattle.rules.specs.Wallets.{look_up}
use Rattle.rules.specs.declared.Submission.{Submission}
use Rattle.rules.specs.declared.WalletState.{WalletState}
use Rattle.rules.specs.declared.WalletState.TheVariants.{Missing}
use Rattle.finding.specs.declared.Parties.{Parties}

abbrev pub look_up_if : Bool → List ℕ → ℕ → ℕ → WalletState
look_up_if asked wallets n id = cond asked (look_up wallets n id) Missing

unfoldable pub parties_of : List ℕ → List ℕ → Submission → Parties
parties_of header wallets s = record {
  signer = look_up_if (one_of signs s.op) wallets (get_or header WALLETS 0) s.signer;
  target = look_up_if (one_of targets s.op) wallets (get_or header WALLETS 0) s.target;
}
