-- Every answer's word is small: 0, the number of a new or of a linked row, or the rows that a sweep closed. So an entry holds it whole, and what
-- our own core records of records of 108 bytes can be read back.
use mathlib.Core.Path.{◌≡◌, ap}
use mathlib.Core.List.{List, [], ◌∷◌}
use Prim.Native.Nat.{ℕ, ◌-◌, ◌≤◌}
use native.Mathlib.Omega.{arith}
use lib.ListN.{get_or}
use lib.Dec.{eqb}
use Rattle.rules.specs.Limits.{ESCROW_LEN, MAX_ESCROWS, RECEIPT_LINK, OPEN, CLAIM, REPLY, SWEEP}
use Rattle.rules.specs.Ledger.{Ledger, Outcome, receipt, escrow_count}
use Rattle.rules.specs.Record.{read_of}
use Rattle.rules.specs.Refusals.{one_of, releasable, replying}
use Rattle.rules.specs.Settle.{Done, accept_row, grant, transfer, open_escrow, release, refund, claim, accept, dispute, sweep, freeze, caps, close, operations, idle, operate_by, settle_by, settle}
use Rattle.rules.specs.Submit.{answer_of, submit}
use Rattle.rules.specs.Replay.{recorded_from}
use Rattle.rules.specs.Agreement.{WordsAreSmall, AllWhole, AllRecords}
use Rattle.rules.specs.declared.Submission.{Submission}
use Rattle.rules.specs.declared.Read.{Read}
use Rattle.rules.proofs.Bools.{cond_case}
use Rattle.rules.proofs.Tests.{RightLengths, lengths_say}
use Rattle.rules.proofs.Formed.{Formed, formed_says, read_formed}
use Rattle.rules.proofs.Good.{Good, good_of}
use Rattle.rules.proofs.Calls.{by_answer, settled, by_op, by_reply}
use Rattle.rules.proofs.Passed.{limit_high, escrow_place, receipt_place, receipt_row}
use Rattle.rules.proofs.Lengths.{lengths_submit}
use Rattle.rules.proofs.SweepPlan.{sweep_counts}

module _ (L : Ledger) (wide : ESCROW_LEN ≤ L.edition.escrow) (r : Read) (z : answer_of L r ≡ 0) (form : Formed r.submission) where
  abbrev s : Submission
  s = r.submission

  right : RightLengths L
  right = lengths_say L (settled L r z).lengths

  open_word : s.op ≡ OPEN → (open_escrow s L).word ≤ MAX_ESCROWS
  unfolding open_escrow
  open_word e = omega (arith, right.escrows.few, escrow_place L r z (ap (one_of (OPEN ∷ [])) e))

  claim_word : s.op ≡ CLAIM → (claim s L).word ≤ MAX_ESCROWS
  unfolding claim
  claim_word e = omega (arith, right.receipts.few, receipt_place L r z (ap (one_of (CLAIM ∷ [])) e))

  accept_word : s.op ≡ REPLY → (accept s L).word ≤ MAX_ESCROWS
  unfolding accept accept_row
  accept_word e =
      let i : ℕ = s.target - 1 in
      let good : Good L = good_of L wide (settled L r z).is_sound in
      let link : receipt L i RECEIPT_LINK ≤ escrow_count L = good.links i (receipt_row L r z (ap (one_of replying) e)) in
      cond_case (λ (d : Done). d.word ≤ MAX_ESCROWS) (eqb (receipt L i RECEIPT_LINK) 0) _ _ (λ q. omega arith)
      (λ q. cond_case (λ (d : Done). d.word ≤ MAX_ESCROWS) (releasable L s.now (receipt L i RECEIPT_LINK - 1)) _ _
      (λ p. omega (arith, link, good.escrows_in, right.escrows.few)) (λ p. omega arith))

  sweep_word : s.op ≡ SWEEP → (sweep s L).word ≤ MAX_ESCROWS
  unfolding sweep
  sweep_word e = omega (arith, sweep_counts s.now s.amount L wide, limit_high L r z (ap (one_of (SWEEP ∷ [])) e))

  settle_word : (settle s L).word ≤ MAX_ESCROWS
  unfolding settle_by operate_by grant transfer release refund dispute freeze caps close
  settle_word =
      by_op (λ (o : ℕ). (get_or operations (o - 1) idle s L).word ≤ MAX_ESCROWS) s.op form.low form.high form.not_8
      (λ e. omega arith) (λ e. omega arith) open_word (λ e. omega arith) (λ e. omega arith) claim_word
      (λ e. by_reply (λ (d : Done). d.word ≤ MAX_ESCROWS) s L (λ h. omega arith) (λ h. accept_word e)) sweep_word
      (λ e. omega arith) (λ e. omega arith) (λ e. omega arith)

pub words_are_small : WordsAreSmall
words_are_small L wide b =
    by_answer (λ (o : Outcome). o.word ≤ MAX_ESCROWS) L b
    (λ z. settle_word L wide (read_of b) z (formed_says (read_of b).submission (read_formed b (settled L (read_of b) z).formed))) (λ ne. omega arith)

-- what our core records can be read back
pub recorded_whole : (L : Ledger) → ESCROW_LEN ≤ L.edition.escrow → (bs : List (List ℕ)) → AllRecords bs → AllWhole (recorded_from submit L bs)
recorded_whole L wide [] h = tt
recorded_whole L wide (b ∷ bs) h = (
  record { bytes = h.0; word = omega (arith, words_are_small L wide b) },
  recorded_whole (submit L b).left (rw (lengths_submit L b).edition wide) bs h.1,
)
