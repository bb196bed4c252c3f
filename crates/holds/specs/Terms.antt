-- What is left to check of a claim whose parties are live: its times, the escrow that it links, and room.
use Rattle.std.specs.Prelude.{List, [], ◌∷◌, Bool, not, ◌&&◌, ◌||◌, ◌+◌, ◌-◌, eqb, ltb}
use Rattle.rules.specs.Limits.{RECEIPT_LEN, JOURNAL_LEN, MIN_ACCEPTANCE_MS, MAX_ACCEPTANCE_MS, FROM, TO, ESCROW_DEADLINE}
use Rattle.rules.specs.Ledger.{Ledger, escrow, escrow_count, receipt_count, entry_count, written, full}
use Rattle.rules.specs.Refusals.{Refusal, row, of_escrow, releasable}
use Rattle.rules.specs.declared.Submission.{Submission}

-- with a link
abbrev pub link : Submission → Bool → Bool
link s b = not (eqb s.link 0) && b

unfoldable pub term_refusals : Ledger → Submission → List Refusal
term_refusals L s =
    row 24 (ltb s.until (s.issued + MIN_ACCEPTANCE_MS))
    ∷ row 25 (ltb (s.issued + MAX_ACCEPTANCE_MS) s.until)
    ∷ row 26 (ltb s.until s.now)
    ∷ row 27 (link s (not (written (escrow_count L) s.link)))
    ∷ row 29 (link s (of_escrow L s.link (not (releasable L s.now (s.link - 1)))))
    ∷ row 30
    (link s (of_escrow L s.link (not (eqb (escrow L (s.link - 1) FROM) s.target) || not (eqb (escrow L (s.link - 1) TO) s.signer))))
    ∷ row 31 (link s (of_escrow L s.link (ltb (escrow L (s.link - 1) ESCROW_DEADLINE) s.until)))
    ∷ row 39 (full RECEIPT_LEN L.receipts (receipt_count L))
    ∷ row 40 (full JOURNAL_LEN L.journal (entry_count L))
    ∷ []

-- those of the escrow, where there is a link
unfoldable pub link_refusals : Ledger → Submission → List Refusal
link_refusals L s =
    row 27 (not (written (escrow_count L) s.link))
    ∷ row 29 (of_escrow L s.link (not (releasable L s.now (s.link - 1))))
    ∷ row 30 (of_escrow L s.link (not (eqb (escrow L (s.link - 1) FROM) s.target) || not (eqb (escrow L (s.link - 1) TO) s.signer)))
    ∷ row 31 (of_escrow L s.link (ltb (escrow L (s.link - 1) ESCROW_DEADLINE) s.until))
    ∷ []
