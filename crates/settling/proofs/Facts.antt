-- What each operation needs, where nothing refuses: counts are small because tables are; the rest is what a sound ledger says of its rows
-- and what each refusal that does not hold says of the submission, asked by its number.
use mathlib.Core.Path.{◌≡◌, ap, ◌∙◌}
use mathlib.Core.List.{List, [], ◌∷◌}
use mathlib.Core.Bool.{true, false}
use Prim.Native.Nat.{ℕ, ◌-◌, ◌≤◌, ◌<◌, ◌^◌}
use native.Mathlib.Nat.{le_trans}
use native.Mathlib.Omega.{arith}
use lib.ListN.{get_or}
use borrow.Author.Tests.{le-ltb, lt-ltb}
use Rattle.rules.specs.Limits.{MAX_ENTRIES, ENTRIES}
use Rattle.rules.specs.Limits.{GRANT, TRANSFER, OPEN, REPLY, FREEZE, CAPS, CLOSE}
use Rattle.rules.specs.Ledger.{Ledger, ledger_of, wallet_count, wallet_row, has_wallet, written}
use Rattle.rules.specs.Wallets.{closed_at, is_closed}
use Rattle.rules.specs.Refusals.{entry_refusals, one_of, paying, closing, signs, targets, replying}
use Rattle.rules.specs.Submit.{answer_of}
use Rattle.rules.specs.declared.Edition.{Edition}
use Rattle.rules.specs.declared.Submission.{Submission}
use Rattle.rules.specs.declared.Read.{Read}
use Rattle.rules.proofs.Tests.{written_low, written_high, header_wide, Few, counts_few, sound_says}
use Rattle.rules.proofs.Formed.{Formed, formed_says}
use Rattle.rules.proofs.Refused.{entry_pass}
use Rattle.rules.proofs.Passed.{amount_high, sender_row, sender_has, escrow_written, escrow_row, escrow_open, receipt_written, receipt_row}
use Rattle.rules.proofs.Passed.{there, target_row, frozen_row, signer_live, target_live, grant_within, wallet_place}
use Rattle.rules.proofs.Good.{Good, good_of, balance_most, locked_most}
use Rattle.rows.specs.Numbered.{Names}
use Rattle.moves.specs.Needs.{Small, Counted, Ends, Accepts}
use Rattle.moves.proofs.Bounds.{counted_of, ends_of, accepts_of}
use Rattle.operations.specs.Needs.{Receiving, Granting, Lives, Paying, Opening, Claiming, Naming, Freezing}
use Rattle.sweeping.specs.Needs.{Sweeping}
use Rattle.settling.specs.Needs.{Settles}

-- a number of a written row names it, where the count is small
written_named : (n k : ℕ) → written n k ≡ true → n ≤ 2 ^ 32 → Names k
written_named n k x small = record { low = written_low n k x; high = le_trans (written_high n k x) small }

module _ (ed : Edition) (h w e r j : List ℕ) (s : Submission) (p : Settles (ledger_of ed h w e r j) s) where
  abbrev pub L : Ledger
  L = ledger_of ed h w e r j

  abbrev pub read : Read
  read = record { number = 0; submission = s }

  pub answered : answer_of L read ≡ 0
  unfolding entry_refusals
  answered = entry_pass L read (rw (p.ready.lengths, p.ready.sound)) ∙ p.passed

  pub good : Good L
  good = good_of L p.sized.escrow p.ready.sound

  few : Few L
  few = counts_few L p.ready.lengths (sound_says L p.ready.sound).header.within

  pub small : Small h
  small = record {
    whole = header_wide L p.ready.lengths p.sized.header;
    wallets = few.wallets;
    escrows = few.escrows;
    receipts = few.receipts;
  }

  pub entries_small : get_or h ENTRIES 0 ≤ MAX_ENTRIES
  entries_small = few.journal

  pub formed : Formed s
  formed = formed_says s p.formed

  -- 1 to 3
  receiving : one_of (GRANT ∷ TRANSFER ∷ OPEN ∷ []) s.op ≡ true → Receiving h w s
  receiving t = record {
    counted = counted_of ed p.sized.small h w e r small good;
    place = λ l. wallet_place L read answered t (le-ltb _ _ l);
    balances = balance_most L good;
    amount = amount_high L read answered t;
  }

  pub granting : s.op ≡ GRANT → Granting h w s
  granting o = record {
    receiving = receiving (ap (one_of (GRANT ∷ TRANSFER ∷ OPEN ∷ [])) o);
    granted = grant_within L read answered (ap (one_of (GRANT ∷ [])) o);
  }

  -- a wallet that is there and not closed
  live : (id : ℕ) → wallet_row L id < wallet_count L → is_closed L id ≡ false → Lives h w id
  live id l c = record { there = l; unclosed = there (has_wallet L id) (closed_at w (wallet_row L id)) (lt-ltb _ _ l) c }

  pays : one_of (GRANT ∷ TRANSFER ∷ OPEN ∷ []) s.op ≡ true → one_of paying s.op ≡ true → one_of signs s.op ≡ true → Paying h w s
  pays t u v = record { receiving = receiving t; signer = live s.signer (sender_row L read answered u) (signer_live L read answered v); enough = sender_has L read answered u }

  pub transferring : s.op ≡ TRANSFER → Paying h w s
  transferring o = pays (ap (one_of (GRANT ∷ TRANSFER ∷ OPEN ∷ [])) o) (ap (one_of paying) o) (ap (one_of signs) o)

  pub opening : s.op ≡ OPEN → Opening ed h w s
  opening o = record {
    paying = pays (ap (one_of (GRANT ∷ TRANSFER ∷ OPEN ∷ [])) o) (ap (one_of paying) o) (ap (one_of signs) o);
    locked = locked_most L good (wallet_row L s.signer) (sender_row L read answered (ap (one_of paying) o));
    len = p.sized.small;
    escrows = small.escrows;
  }

  -- 4 and 5
  pub ending : one_of closing s.op ≡ true → Names s.target × Ends ed h w e (s.target - 1)
  ending t = (
    written_named _ _ (escrow_written L read answered t) (omega (arith, small.escrows)),
    ends_of ed p.sized.small h w e r small good (s.target - 1) (escrow_row L read answered t) (escrow_open L read answered t),
  )

  -- 6
  pub claiming : Claiming h
  claiming = record { whole = small.whole; receipts = small.receipts }

  -- 7
  pub answering : s.op ≡ REPLY → Names s.target × Accepts ed h w e r s.now (s.target - 1)
  answering o =
      let t = ap (one_of replying) o in (
        written_named _ _ (receipt_written L read answered t) (omega (arith, small.receipts)),
        accepts_of ed p.sized.small h w e r small good s.now (s.target - 1) (receipt_row L read answered t),
      )

  -- 9
  pub swept : Sweeping ed h w e r s.now
  swept = record { len = p.sized.small; small = small; good = good; now = formed.now_right }

  -- 10, 11 and 12
  counted : Counted h w
  counted = counted_of ed p.sized.small h w e r small good

  pub freezing : s.op ≡ FREEZE → Freezing h w s
  freezing o = record {
    counted = counted;
    target = λ ne. live s.target (frozen_row L read answered (ap (one_of (FREEZE ∷ [])) o) ne) (target_live L read answered (ap (one_of targets) o));
  }

  naming : one_of (CAPS ∷ CLOSE ∷ []) s.op ≡ true → one_of targets s.op ≡ true → Naming h w s
  naming t u = record { counted = counted; target = live s.target (target_row L read answered t) (target_live L read answered u) }

  pub capping : s.op ≡ CAPS → Naming h w s
  capping o = naming (ap (one_of (CAPS ∷ CLOSE ∷ [])) o) (ap (one_of targets) o)

  pub shutting : s.op ≡ CLOSE → Naming h w s
  shutting o = naming (ap (one_of (CAPS ∷ CLOSE ∷ [])) o) (ap (one_of targets) o)
