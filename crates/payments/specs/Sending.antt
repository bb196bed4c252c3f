-- What is left to check of a transfer or an open whose sender is live and pays somebody else: by the recipient's wallet, and by the sender's limits.
use Rattle.std.specs.Prelude.{List, [], ◌∷◌, not, ◌&&◌, ◌+◌, eqb, ltb, leb}
use Rattle.rules.specs.Limits.{WALLET_LEN, JOURNAL_LEN, MAX_HOLD_MS, OPEN, BALANCE, TX_CAP, DAILY_CAP}
use Rattle.rules.specs.Ledger.{Ledger, wallet_count, escrow_count, entry_count, has_wallet, wallet_of, full}
use Rattle.rules.specs.Wallets.{is_closed}
use Rattle.rules.specs.Refusals.{Refusal, row, counted}
use Rattle.rules.specs.declared.Submission.{Submission}

unfoldable pub sending_refusals : Ledger → Submission → List Refusal
sending_refusals L s =
    row 43 (is_closed L s.target)
    ∷ row 17 (ltb (wallet_of L s.signer BALANCE) s.amount)
    ∷ row 18 (ltb (wallet_of L s.signer TX_CAP) s.amount)
    ∷ row 19 (ltb (wallet_of L s.signer DAILY_CAP) (s.amount + counted L s.signer s.now))
    ∷ row 20 (eqb s.op OPEN && leb s.until s.now)
    ∷ row 21 (eqb s.op OPEN && ltb (s.now + MAX_HOLD_MS) s.until)
    ∷ row 37 (not (has_wallet L s.target) && full WALLET_LEN L.wallets (wallet_count L))
    ∷ row 38 (eqb s.op OPEN && full L.edition.escrow L.escrows (escrow_count L))
    ∷ row 40 (full JOURNAL_LEN L.journal (entry_count L))
    ∷ []
