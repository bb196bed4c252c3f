-- Demands 1 and 2 of what a call showed: it is what the definitions give, and of those they are proved.
use mathlib.Core.Path.{◌≡◌, sym, ap, ◌∙◌, subst}
use mathlib.Core.Logic.{◌≢◌, ◌⊎◌, inl, inr}
use mathlib.Core.List.{List, []}
use Prim.Native.Nat.{ℕ, ◌≤◌}
use lib.ListN.{length, get_or-eq_default}
use Rattle.rules.specs.Limits.{WALLET_LEN, RECEIPT_LEN, ESCROWS, RECEIPTS, MAX_ESCROWS, MAX_RECEIPTS, NOT_REPLAYED, LAST_ANSWER}
use Rattle.rules.specs.Table.{rows_in}
use Rattle.rules.specs.Ledger.{Edition, Ledger, Outcome, outcome, set_header, fresh_header}
use Rattle.rules.specs.Record.{read_of, nothing, Written}
use Rattle.rules.specs.Refusals.{refusals}
use Rattle.rules.specs.Submit.{submit}
use Rattle.rules.specs.Replay.{Gone}
use Rattle.rules.specs.Report.{Reported}
use Rattle.rules.specs.Status.{statuses}
use Rattle.rules.specs.Promises.{IsFirst, Refused, Stands}
use Rattle.rules.specs.Results.{Pair, Looked, wallet_standing, place_of_escrow, escrow_row, place_of_receipt, receipt_row, Result, by_fresh, by_submit, by_replay, by_report, by_lookup, by_read, by_write, by_status, by_convert, FindsAs, Meets, PartOf, Finding, Listed, Decided, DecidedBy}
use Rattle.rules.specs.declared.Read.{Read}
use Rattle.rules.specs.declared.Verdict.{Verdict}
use Rattle.rules.proofs.Convert.{length_converted}
use Rattle.rules.proofs.Places.{place_within}
use Rattle.rules.proofs.Demand12.{on_the_list, refusal_changes_nothing, fresh_case, read_answers, write_answers, part_answers, settles_exactly, first_refusal, laid_down}
use Rattle.rules.proofs.Replays.{replays}
use Rattle.rules.proofs.Reports.{report_answers}

-- ---- a start afresh

listed_fresh : (e : Edition) (lent left : Ledger) (number : ℕ) → Meets e (by_fresh lent left number) → Listed e (by_fresh lent left number)
listed_fresh e lent left number m =
    fresh_case (λ (o : Outcome). outcome number 0 left ≡ o → Listed e (by_fresh lent left number)) lent
    (λ right o. inl (ap (λ (o : Outcome). o.number) o, ap (λ (o : Outcome). o.left) o ∙ ap (λ (d : Edition). set_header (fresh_header d) lent) m.0))
    (λ wrong o. inr (ap (λ (o : Outcome). o.number) o, ap (λ (o : Outcome). o.left) o)) m.1

-- ---- a submission

module _ (lent left : Ledger) (bytes : List ℕ) (number word : ℕ) (m : outcome number word left ≡ submit lent bytes) where
  number_of : number ≡ (submit lent bytes).number
  number_of = ap (λ (o : Outcome). o.number) m

  word_of : word ≡ (submit lent bytes).word
  word_of = ap (λ (o : Outcome). o.word) m

  left_of : left ≡ (submit lent bytes).left
  left_of = ap (λ (o : Outcome). o.left) m

  listed_submit : (number ≤ LAST_ANSWER) × (number ≢ 0 → (word ≡ 0) × (left ≡ lent))
  listed_submit = (
    subst (λ (n : ℕ). n ≤ LAST_ANSWER) (sym number_of) (on_the_list lent bytes),
    λ n. let r : Refused lent bytes = refusal_changes_nothing lent bytes (λ z. n (number_of ∙ z)) in (word_of ∙ r.word, left_of ∙ r.left),
  )

  decided : Decided lent left bytes number word
  decided = record {
    settles = λ z. (settles_exactly lent bytes).0 (sym number_of ∙ z);
    exactly = λ z. number_of ∙ (settles_exactly lent bytes).1 z;
    first = λ n. subst (λ (k : ℕ). IsFirst k (refusals lent (read_of bytes))) (sym number_of) (first_refusal lent bytes (λ z. n (number_of ∙ z)));
    laid_down = λ z.
        let o = laid_down lent bytes (sym number_of ∙ z) in
        (word_of ∙ ap (λ (o : Outcome). o.word) o, left_of ∙ ap (λ (o : Outcome). o.left) o);
  }

-- ---- a lookup

part_of : (e : Edition) (lent : Pair) (looked : Looked) → FindsAs e lent looked → PartOf e lent.table looked
part_of e lent (wallet_standing id standing) m =
    subst (Stands (rows_in WALLET_LEN lent.table)) (sym m) (part_answers e lent.header lent.table id).2
part_of e lent (place_of_escrow number place) m =
    subst (λ (p : ℕ). p ≤ length lent.table) (sym m) (place_within e.header ESCROWS e.escrow MAX_ESCROWS lent.header lent.table number)
part_of e lent (escrow_row number part) m =
    subst (λ (p : List ℕ). (p ≡ []) ⊎ (length p ≡ e.escrow)) (sym m) (part_answers e lent.header lent.table number).0
part_of e lent (place_of_receipt number place) m =
    subst (λ (p : ℕ). p ≤ length lent.table) (sym m) (place_within e.header RECEIPTS RECEIPT_LEN MAX_RECEIPTS lent.header lent.table number)
part_of e lent (receipt_row number part) m =
    subst (λ (p : List ℕ). (p ≡ []) ⊎ (length p ≡ RECEIPT_LEN)) (sym m) (part_answers e lent.header lent.table number).1

-- ---- any call

pub listed : (e : Edition) (r : Result) → Meets e r → Listed e r
listed e (by_fresh lent left number) m = listed_fresh e lent left number m
listed e (by_submit lent left bytes number word) m = listed_submit lent left bytes number word m.1
listed e (by_replay lent left recording verdict) m =
    subst (λ (g : Gone Verdict). Finding g.found ⊎ ((g.found.number ≡ 1) × (g.found.finding ≡ NOT_REPLAYED) × (g.left ≡ lent))) (sym m.1)
    (replays lent recording).listed
listed e (by_report lent left recording before after number entries) m =
    subst (λ (x : Reported). (x.number ≡ 0) ⊎ ((x.number ≡ 1) × (x.entries ≡ 0) × (x.report ≡ before) × (x.left ≡ lent))) (sym m.1)
    (report_answers before lent recording)
listed e (by_lookup lent left looked) m = (m.0, part_of e lent looked m.1)
listed e (by_read bytes answer) m =
    subst (λ (r : Read). (r.number ≡ 0) ⊎ ((r.number ≡ 3) × (r.submission ≡ nothing))) (sym m) (read_answers bytes)
listed e (by_write s out left number) m =
    subst (λ (w : Written). (w.number ≡ 0) ⊎ ((w.number ≡ 3) × (w.out ≡ out))) (sym m) (write_answers s out)
listed e (by_status number status) m = λ l. m ∙ get_or-eq_default statuses 500 l
listed e (by_convert recording left) m = ap length m ∙ length_converted recording

pub decided_by : (e : Edition) (r : Result) → Meets e r → DecidedBy r
decided_by e (by_fresh lent left number) m = tt
decided_by e (by_submit lent left bytes number word) m = decided lent left bytes number word m.1
decided_by e (by_replay lent left recording verdict) m = tt
decided_by e (by_report lent left recording before after number entries) m = tt
decided_by e (by_lookup lent left looked) m = tt
decided_by e (by_read bytes answer) m = tt
decided_by e (by_write s out left number) m = tt
decided_by e (by_status number status) m = tt
decided_by e (by_convert recording left) m = tt
