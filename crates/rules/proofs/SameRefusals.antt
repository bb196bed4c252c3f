-- Two ledgers of the same header and written rows refuse the same submissions by the same numbers. A condition that looks at a row says first that
-- the row is there; so both ledgers look at written rows, or neither looks. Conditions that look at no ledger are not named here.
use mathlib.Core.Path.{◌≡◌, ap, ap₂}
use mathlib.Core.Bool.{Bool, not, ◌&&◌, ◌||◌}
use Prim.Native.Nat.{ℕ, ◌+◌, ◌-◌, ◌≤◌, ◌<◌}
use lib.Dec.{eqb, ltb, lit<}
use borrow.Author.Tests.{ltb-true}
use Rattle.rules.specs.Limits.{WALLET_LEN, RECEIPT_LEN}
use Rattle.rules.specs.Limits.{BALANCE, LOCKED, FROZEN, IS_FROZEN, IS_CLOSED, TX_CAP, DAILY_CAP, FROM, TO, ESCROW_DEADLINE, ESCROW_STATE, REQUESTER, ACCEPTANCE_DEADLINE, RECEIPT_STATE, IS_OPEN, PENDING}
use Rattle.rules.specs.Limits.{SIGNER, NONCE, OPERATION, ENTRY_AMOUNT, SETTLED_AT, ADMIN}
use Rattle.rules.specs.Ledger.{Ledger, receipt, escrow_count, receipt_count, wallet_of, written}
use Rattle.rules.specs.Wallets.{is_closed, open_to}
use Rattle.rules.specs.Refusals.{clear, seen_in, seen, counted_of, counted, sender, of_escrow, of_receipt, releasable, not_empty}
use Rattle.rules.specs.Refusals.{entry_refusals, envelope_refusals, operation_refusals_by, operation_refusals, refusals_by}
use Rattle.rules.specs.Submit.{answer_by, answer_of}
use Rattle.rules.specs.Same.{SameWritten}
use Rattle.rules.specs.declared.Submission.{Submission}
use Rattle.rules.specs.declared.Read.{Read}
use Rattle.rules.proofs.Counts.{sum_ext, some_ext}
use Rattle.rules.proofs.Passed.{written_row}
use Rattle.rules.proofs.Lengths.{lengths_right_lem}
use Rattle.rules.proofs.SameReads.{guarded, lengths_of, escrow_same, of_escrow_same, receipt_same, entry_same, has_same, of_same}
use Rattle.rules.proofs.SameSound.{sound_same}

module _ (K L : Ledger) (a : SameWritten K L) (wide : 8 ≤ L.edition.escrow) where
  -- ---- the journal

  seen_same : (g n : ℕ) → seen K g n ≡ seen L g n
  unfolding seen seen_in
  seen_same g n = rw a.header (some_ext _ _ _ (λ i h. let w = entry_same K L a i h in rw (w SIGNER (lit< tt), w NONCE (lit< tt))))

  counted_same : (g now : ℕ) → counted K g now ≡ counted L g now
  unfolding counted counted_of
  counted_same g now =
      rw a.header
      (sum_ext _ _ _
      (λ i h. let w = entry_same K L a i h in rw (w SIGNER (lit< tt), w OPERATION (lit< tt), w SETTLED_AT (lit< tt), w ENTRY_AMOUNT (lit< tt))))

  -- ---- conditions on a row that is there: the signer's wallet, an escrow, and a receipt

  sender_same : (s : Submission) (f : ℕ → Bool) (k : ℕ) → k < WALLET_LEN → sender K s (f (wallet_of K s.signer k)) ≡ sender L s (f (wallet_of L s.signer k))
  sender_same s f k k< = guarded _ _ _ _ (has_same K L a s.signer) (λ h. ap f (of_same K L a s.signer k (ltb-true _ _ h) k<))

  stale_same : (now n : ℕ) → of_escrow K n (not (releasable K now (n - 1))) ≡ of_escrow L n (not (releasable L now (n - 1)))
  stale_same now n =
      guarded (written (escrow_count K) n) (written (escrow_count L) n) _ _ (rw a.header)
      (λ there. let w = escrow_same K L a wide (n - 1) (written_row (escrow_count L) n there) in rw (w ESCROW_STATE (lit< tt), w ESCROW_DEADLINE (lit< tt)))

  of_receipt_same : (n : ℕ) (f : ℕ → Bool) (k : ℕ) → k < RECEIPT_LEN → of_receipt K n (f (receipt K (n - 1) k)) ≡ of_receipt L n (f (receipt L (n - 1) k))
  of_receipt_same n f k k< =
      guarded (written (receipt_count K) n) (written (receipt_count L) n) _ _ (rw a.header)
      (λ there. ap f (receipt_same K L a (n - 1) (written_row (receipt_count L) n there) k k<))

  -- ---- a wallet by its id: whether it is closed, and whether it is empty

  closed_same : (id : ℕ) → is_closed K id ≡ is_closed L id
  closed_same id = guarded _ _ _ _ (has_same K L a id) (λ h. ap (λ x. eqb x IS_CLOSED) (of_same K L a id FROZEN (ltb-true _ _ h) (lit< tt)))

  open_to_same : (id : ℕ) → open_to K.edition.escrow K.escrows (escrow_count K) id ≡ open_to L.edition.escrow L.escrows (escrow_count L) id
  unfolding open_to
  open_to_same id =
      rw a.header
      (some_ext _ _ _ (λ i h. let w = escrow_same K L a wide i h in ap₂ (λ x y. eqb x id && eqb y IS_OPEN) (w TO (lit< tt)) (w ESCROW_STATE (lit< tt))))

  empty_same : (id : ℕ) → not_empty K id ≡ not_empty L id
  empty_same id =
      guarded _ _ _ _ (has_same K L a id)
      (λ h. rw (of_same K L a id BALANCE (ltb-true _ _ h) (lit< tt), of_same K L a id LOCKED (ltb-true _ _ h) (lit< tt), open_to_same id))

  -- ---- the table

  entry_rows : (r : Read) → entry_refusals K r ≡ entry_refusals L r
  unfolding entry_refusals
  entry_rows r = rw (lengths_right_lem (lengths_of K L a), sound_same K L a wide)

  envelope_rows : (s : Submission) → envelope_refusals K s ≡ envelope_refusals L s
  unfolding envelope_refusals
  envelope_rows s = rw (seen_same s.signer s.nonce, a.header)

  operation_rows : (s : Submission) → operation_refusals K s ≡ operation_refusals L s
  unfolding operation_refusals_by
  operation_rows s =
      rw (
        counted_same s.signer s.now,
        sender_same s (λ x. eqb x IS_FROZEN) FROZEN (lit< tt),
        sender_same s (λ x. ltb x s.amount) BALANCE (lit< tt),
        sender_same s (λ x. ltb x s.amount) TX_CAP (lit< tt),
        sender_same s (λ x. ltb x (s.amount + counted L s.signer s.now)) DAILY_CAP (lit< tt),
        of_escrow_same K L a wide s.target (λ x y. not (eqb s.signer x) && clear s ADMIN) FROM FROM (lit< tt) (lit< tt),
        stale_same s.now s.target,
        stale_same s.now s.link,
        of_escrow_same K L a wide s.link (λ x y. not (eqb x s.target) || not (eqb y s.signer)) FROM TO (lit< tt) (lit< tt),
        of_escrow_same K L a wide s.link (λ x y. ltb x s.until) ESCROW_DEADLINE ESCROW_DEADLINE (lit< tt) (lit< tt),
        of_receipt_same s.target (λ x. not (eqb s.signer x)) REQUESTER (lit< tt),
        of_receipt_same s.target (λ x. not (eqb x PENDING)) RECEIPT_STATE (lit< tt),
        of_receipt_same s.target (λ x. ltb x s.now) ACCEPTANCE_DEADLINE (lit< tt),
        closed_same s.signer,
        closed_same s.target,
        empty_same s.target,
        has_same K L a s.signer,
        has_same K L a s.target,
        a.header,
        a.wallets.lengths,
        a.escrows.lengths,
        a.receipts.lengths,
        a.journal.lengths,
        a.edition,
      )

  pub answer_same : (r : Read) → answer_of K r ≡ answer_of L r
  unfolding answer_by refusals_by
  answer_same r = rw (entry_rows r, envelope_rows r.submission, operation_rows r.submission)
