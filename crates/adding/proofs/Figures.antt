-- The five figures of a submission that nothing refuses, by its operation: what the code may read, and that what it has read is what the
-- definition adds.
use mathlib.Core.Path.{◌≡◌, refl, sym, ap, subst, ◌∙◌}
use mathlib.Core.List.{List, [], ◌∷◌}
use mathlib.Core.Bool.{Bool, true, false, not}
use Prim.Native.Nat.{ℕ, zero, suc, ◌-◌, ◌<◌, ◌^◌}
use lib.ListN.{get_or, replicate, length-replicate}
use lib.Dec.{T, lit<}
use Rattle.rules.specs.Limits.{MAX_ESCROWS, ESCROW_AMOUNT, GRANT, TRANSFER, RELEASE, REFUND, REPLY, ACCEPTS, SWEEP}
use Rattle.rules.specs.Table.{word}
use Rattle.rules.specs.Ledger.{Ledger, ledger_of, outcome, escrow_count}
use Rattle.rules.specs.Refusals.{one_of, clear, closing, replying}
use Rattle.rules.specs.Settle.{settle, swept}
use Rattle.rules.specs.Report.{adds_of}
use Rattle.rules.specs.declared.Edition.{Edition}
use Rattle.rules.specs.declared.Submission.{Submission}
use Rattle.rules.proofs.Passed.{escrow_row, escrow_open, receipt_row}
use Rattle.rules.proofs.Adds.{figures, adds_grant, adds_transfer, adds_release, adds_refund, adds_dispute, adds_accept, adds_sweep, adds_other}
use Rattle.rows.specs.Numbered.{Names}
use Rattle.settling.specs.Needs.{Settles}
use Rattle.settling.proofs.Facts as facts
use Rattle.adding.specs.Needs.{Links, Sweeps}
use Rattle.adding.specs.Turns.{freed, Unmarked}

no_mark : (m c : ℕ) → ◌≡◌ {A = Bool} (get_or (replicate m false) c false) false
no_mark zero c = refl
no_mark (suc m) zero = refl
no_mark (suc m) (suc c) = no_mark m c

-- the marks before the first receipt
pub unmarked : Unmarked (replicate MAX_ESCROWS false)
unmarked = record { places = length-replicate {A = Bool} MAX_ESCROWS false; none = no_mark MAX_ESCROWS }

-- the operations that a figure counts
abbrev figured : List ℕ
figured = GRANT ∷ TRANSFER ∷ RELEASE ∷ REFUND ∷ REPLY ∷ SWEEP ∷ []

module _ (ed : Edition) (h w e r j : List ℕ) (s : Submission) (p : Settles (ledger_of ed h w e r j) s) where
  abbrev L : Ledger
  L = ledger_of ed h w e r j

  -- what the figures of an entry come to
  abbrev added : List ℕ
  added = adds_of L s (outcome 0 (settle s L).word (settle s L).after)

  -- ---- what may be read

  pub can_look : one_of closing s.op ≡ true → Names s.target × (ed.escrow < 2 ^ 16) × (ESCROW_AMOUNT < 2 ^ 16)
  can_look t = ((facts.ending ed h w e r j s p t).0, p.sized.small, lit< tt)

  pub can_accept : s.op ≡ REPLY → Names s.target × Links ed r (s.target - 1)
  can_accept o = let a = facts.answering ed h w e r j s p o in (a.0, record { len = a.1.len; link = a.1.link })

  pub can_sweep : Sweeps ed h e r s.now
  can_sweep = record { wallets = w; sweeping = facts.swept ed h w e r j s p }

  -- ---- what is added

  pub granted : s.op ≡ GRANT → s.amount ∷ 0 ∷ 0 ∷ 0 ∷ 0 ∷ [] ≡ added
  granted o = adds_grant _ s L o

  pub transferred : s.op ≡ TRANSFER → 0 ∷ s.amount ∷ 0 ∷ 0 ∷ 0 ∷ [] ≡ added
  transferred o = adds_transfer _ s L o

  row : one_of closing s.op ≡ true → s.target - 1 < escrow_count L
  row t = escrow_row L (facts.read ed h w e r j s p) (facts.answered ed h w e r j s p) t

  pub released : (x : ℕ) → s.op ≡ RELEASE → x ≡ word e ed.escrow (s.target - 1) ESCROW_AMOUNT → 0 ∷ 0 ∷ x ∷ 0 ∷ 0 ∷ [] ≡ added
  released x o q =
      let t = ap (one_of closing) o in
      ap (λ (n : ℕ). 0 ∷ 0 ∷ n ∷ 0 ∷ 0 ∷ []) q
      ∙ adds_release _ s L (facts.good ed h w e r j s p) (row t) (escrow_open L (facts.read ed h w e r j s p) (facts.answered ed h w e r j s p) t) o

  pub refunded : (x : ℕ) → s.op ≡ REFUND → x ≡ word e ed.escrow (s.target - 1) ESCROW_AMOUNT → 0 ∷ 0 ∷ 0 ∷ x ∷ 0 ∷ [] ≡ added
  refunded x o q =
      let t = ap (one_of closing) o in
      ap (λ (n : ℕ). 0 ∷ 0 ∷ 0 ∷ n ∷ 0 ∷ []) q
      ∙ adds_refund _ s L (facts.good ed h w e r j s p) (row t) (escrow_open L (facts.read ed h w e r j s p) (facts.answered ed h w e r j s p) t) o

  pub disputed : s.op ≡ REPLY → clear s ACCEPTS ≡ true → 0 ∷ 0 ∷ 0 ∷ 0 ∷ 0 ∷ [] ≡ added
  disputed o c = adds_dispute _ s L o c

  pub accepted : (x : ℕ) → s.op ≡ REPLY → clear s ACCEPTS ≡ false → x ≡ freed ed e r s.now (s.target - 1) → 0 ∷ 0 ∷ x ∷ 0 ∷ 0 ∷ [] ≡ added
  unfolding freed
  accepted x o c q =
      ap (λ (n : ℕ). 0 ∷ 0 ∷ n ∷ 0 ∷ 0 ∷ []) q
      ∙ adds_accept _ s L (facts.good ed h w e r j s p)
      (receipt_row L (facts.read ed h w e r j s p) (facts.answered ed h w e r j s p) (ap (one_of replying) o)) o c

  pub sweeps : (xs : List ℕ) → s.op ≡ SWEEP → xs ≡ figures 0 0 L (swept s.now s.amount L).tables → xs ≡ added
  sweeps xs o q = q ∙ adds_sweep _ s L o

  pub nothing : (s.op ≡ GRANT → ⊥) → (s.op ≡ TRANSFER → ⊥) → (s.op ≡ RELEASE → ⊥) → (s.op ≡ REFUND → ⊥) → (s.op ≡ REPLY → ⊥) → (s.op ≡ SWEEP → ⊥)
      → 0 ∷ 0 ∷ 0 ∷ 0 ∷ 0 ∷ [] ≡ added
  nothing n1 n2 n4 n5 n7 n9 =
      let f = facts.formed ed h w e r j s p in
      adds_other _ s L p.sized.escrow f.low f.high f.not_8 n1 n2 n4 n5 n7 n9

  -- by the number of an operation that is none of these
  pub no_figure : (op : ℕ) → s.op ≡ op → T (not (one_of figured op)) → 0 ∷ 0 ∷ 0 ∷ 0 ∷ 0 ∷ [] ≡ added
  no_figure op o t =
      let off : (k : ℕ) → s.op ≡ k → T (not (one_of figured k)) = λ k q. subst (λ (m : ℕ). T (not (one_of figured m))) (sym o ∙ q) t in
      nothing (off GRANT) (off TRANSFER) (off RELEASE) (off REFUND) (off REPLY) (off SWEEP)
