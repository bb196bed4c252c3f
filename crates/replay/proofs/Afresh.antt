-- A replay on tables started afresh, over plain values: what starting answered decides whether anything is replayed.
use mathlib.Core.Path.{◌≡◌, sym, ap, ◌∙◌, subst}
use mathlib.Core.Logic.{◌≢◌}
use mathlib.Core.List.{List}
use mathlib.Core.Bool.{true}
use Prim.Native.Nat.{ℕ}
use Rattle.rules.specs.Ledger.{Ledger, Outcome, outcome, Sized, lengths_right, fresh}
use Rattle.rules.specs.Replay.{Rule, Gone, gone, replay_on, replay}
use Rattle.rules.specs.Sound.{Ready}
use Rattle.rules.specs.declared.Found.{Found}
use Rattle.rules.specs.declared.Found.TheVariants.{WrongLength}
use Rattle.rules.proofs.Bools.{cond_case}
use Rattle.rules.proofs.Demand12.{fresh_right, fresh_zero, fresh_wrong}
use Rattle.rules.proofs.Ready.{ready_fresh}

right : (L left : Ledger) {x : ℕ} → outcome x 0 left ≡ fresh L → x ≡ 0 → lengths_right L ≡ true
right L left e z = fresh_right L (sym (ap (λ (o : Outcome). o.number) e) ∙ z)

-- starting that answers another number leaves the tables as they were
pub wrong_length : (rule : Rule) (r : List ℕ) (L left : Ledger) {x : ℕ} → outcome x 0 left ≡ fresh L → x ≢ 0 → gone WrongLength left ≡ replay rule L r
unfolding replay
wrong_length rule r L left {x} e ne =
    cond_case (λ (g : Gone Found). gone WrongLength left ≡ g) (lengths_right L) (replay_on rule (fresh L).left r) (gone WrongLength L)
    (λ right. absurd (ne (ap (λ (o : Outcome). o.number) e ∙ fresh_zero L right)))
    (λ wrong. ap (λ (o : Outcome). gone WrongLength o.left) (e ∙ fresh_wrong L wrong))

-- started, the tables are ready for the first entry
pub ready_first : (L left : Ledger) {x : ℕ} → Sized L.edition → outcome x 0 left ≡ fresh L → x ≡ 0 → Ready left
ready_first L left sized e z =
    subst (λ (o : Outcome). Ready o.left) (sym e)
    (ready_fresh L (record { lengths = right L left e z; header = sized.header; escrow = sized.escrow }))

pub replayed : (rule : Rule) (r : List ℕ) (L left last : Ledger) {x : ℕ} {found : Found} → outcome x 0 left ≡ fresh L → x ≡ 0 → gone found last ≡ replay_on rule left r
    → gone found last ≡ replay rule L r
unfolding replay
replayed rule r L left last e z y =
    let w = right L left e z in
    rw w (y ∙ ap (λ (o : Outcome). replay_on rule o.left r) e)
