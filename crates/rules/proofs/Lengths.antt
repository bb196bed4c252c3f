-- No call changes the length of a lent table or the edition: the small moves keep them (Keeps), and so does a new journal row. So right
-- lengths stay right.
use mathlib.Core.Path.{◌≡◌, refl, sym, ◌∙◌, subst}
use mathlib.Core.List.{List, [], ◌∷◌}
use mathlib.Core.Bool.{Bool}
use Prim.Native.Nat.{ℕ, ◌+◌, ◌-◌, ◌/◌, ◌%◌, ◌≤◌}
use native.Mathlib.Omega.{arith}
use lib.ListN.{length-set, length-replicate}
use lib.Dec.{eqb, leb}
use Rattle.rules.specs.Limits.{HEADER_LEN, ESCROW_LEN, WALLET_LEN, RECEIPT_LEN, JOURNAL_LEN, MAX_WALLETS, MAX_ESCROWS, MAX_RECEIPTS, MAX_ENTRIES, ENTRIES, SWEEP}
use Rattle.rules.specs.Table.{all}
use Rattle.rules.specs.Ledger.{Edition, Ledger, Outcome, outcome, entry_count, set_header, put_head, new_entry, lengths_right, fresh_header, fresh}
use Rattle.rules.specs.Record.{read_of}
use Rattle.rules.specs.Settle.{enter, settle_by, settle}
use Rattle.rules.specs.Submit.{submit}
use Rattle.rules.specs.History.{Call, starts_afresh, submits, reads, writes, asks_status, finds_wallet, finds_escrow, finds_receipt, leaves}
use Rattle.rules.specs.Promises.{Lent, started, SameLengths, LengthsStay}
use Rattle.rules.specs.declared.Submission.{Submission}
use Rattle.rules.proofs.Bools.{cond_case}
use Rattle.rules.proofs.Rows.{length_put_row}
use Rattle.rules.proofs.Tests.{lengths_say}
use Rattle.rules.proofs.Calls.{by_left}
use Rattle.rules.proofs.Keeps.{lengths_same, lengths_then, before_entry, keeps_before}

lengths_entry : (vs : List ℕ) (L : Ledger) → SameLengths (new_entry vs L) L
unfolding new_entry put_head
lengths_entry vs L = record {
  edition = refl;
  header = length-set L.header ENTRIES (entry_count L + 1);
  wallets = refl;
  escrows = refl;
  receipts = refl;
  journal = length_put_row L.journal JOURNAL_LEN (entry_count L) vs;
}

pub lengths_settle : (s : Submission) (L : Ledger) → SameLengths (settle s L).after L
unfolding settle_by enter
lengths_settle s L =
    let k : SameLengths (before_entry s L) L = (keeps_before s L).lengths in
    cond_case (λ (K : Ledger). SameLengths K L) (eqb s.op SWEEP) (before_entry s L) _ (λ e. k) (λ e. lengths_then k (lengths_entry _ (before_entry s L)))

pub lengths_submit : (L : Ledger) (b : List ℕ) → SameLengths (submit L b).left L
lengths_submit L b = by_left (λ (K : Ledger). SameLengths K L) L b (λ e. lengths_settle (read_of b).submission L) (λ e. lengths_same L)

-- starting afresh changes no length
pub lengths_started : (L : Ledger) → HEADER_LEN ≤ L.edition.header → SameLengths (started L) L
unfolding fresh
lengths_started L h =
    cond_case (λ (o : Outcome). SameLengths o.left L) (lengths_right L) (outcome 0 0 (set_header (fresh_header L.edition) L)) (outcome 1 0 L)
    (λ e. record {
      edition = refl;
      header = omega (arith, length-replicate {A = ℕ} (L.edition.header - 1) 0, (lengths_say L e).header, h);
      wallets = refl;
      escrows = refl;
      receipts = refl;
      journal = refl;
    }) (λ e. lengths_same L)

-- right lengths are a matter of the lengths
pub lengths_right_lem : {K L : Ledger} → SameLengths K L → lengths_right K ≡ lengths_right L
unfolding lengths_right
lengths_right_lem {K} {L} p =
    λ i. all (eqb (p.header i) (p.edition i).header ∷ right WALLET_LEN MAX_WALLETS (p.wallets i)
    ∷ right (p.edition i).escrow MAX_ESCROWS (p.escrows i) ∷ right RECEIPT_LEN MAX_RECEIPTS (p.receipts i)
    ∷ right JOURNAL_LEN MAX_ENTRIES (p.journal i) ∷ [])
  where
    right : ℕ → ℕ → ℕ → Bool
    right len most n = all (leb len n ∷ eqb (n % len) 0 ∷ leb (n / len) most ∷ [])

pub lent_stays : {K L : Ledger} → SameLengths K L → Lent L → Lent K
lent_stays p l = record {
  lengths = lengths_right_lem p ∙ l.lengths;
  header = subst (λ (e : Edition). HEADER_LEN ≤ e.header) (sym p.edition) l.header;
  escrow = subst (λ (e : Edition). ESCROW_LEN ≤ e.escrow) (sym p.edition) l.escrow;
}

-- ---- any calls

-- what a submission and a start afresh keep, every call keeps: the others leave the ledger
pub by_call {κ} : (P : Ledger → Type κ) (L : Ledger) → P L → ((b : List ℕ) → P (submit L b).left) → (c : Call) → (c ≡ starts_afresh → P (started L)) → P (leaves L c)
by_call P L p f starts_afresh g = g refl
by_call P L p f (submits b) g = f b
by_call P L p f (reads b) g = p
by_call P L p f (writes s out) g = p
by_call P L p f (asks_status n) g = p
by_call P L p f (finds_wallet id) g = p
by_call P L p f (finds_escrow k) g = p
by_call P L p f (finds_receipt k) g = p

pub lengths_call : (L : Ledger) → HEADER_LEN ≤ L.edition.header → (c : Call) → SameLengths (leaves L c) L
lengths_call L h c = by_call (λ (K : Ledger). SameLengths K L) L (lengths_same L) (lengths_submit L) c (λ e. lengths_started L h)

pub lengths_stay : LengthsStay
lengths_stay L h [] = lengths_same L
lengths_stay L h (c ∷ cs) =
    let p : SameLengths (leaves L c) L = lengths_call L h c in
    lengths_then p (lengths_stay (leaves L c) (subst (λ (e : Edition). HEADER_LEN ≤ e.header) (sym p.edition) h) cs)

pub lent_started : (L : Ledger) → Lent L → Lent (started L)
lent_started L l = lent_stays (lengths_started L l.header) l

pub lent_call : (L : Ledger) → Lent L → (c : Call) → Lent (leaves L c)
lent_call L l c = lent_stays (lengths_call L l.header c) l
