-- Two ledgers of the same header and written rows are both sound, or neither: test by test, each over words that are the same.
use mathlib.Core.Path.{◌≡◌}
use mathlib.Core.Bool.{◌&&◌}
use Prim.Native.Nat.{ℕ, ◌≤◌, ◌<◌}
use lib.Dec.{eqb, lit<}
use Rattle.rules.specs.Limits.{WALLETS, ESCROWS, RECEIPTS, ENTRIES, ID, BALANCE, LOCKED, FROZEN}
use Rattle.rules.specs.Limits.{FROM, TO, ESCROW_AMOUNT, ESCROW_DEADLINE, ESCROW_STATE, OPENED_AT, ESCROW_CLOSED_AT}
use Rattle.rules.specs.Limits.{PROVIDER, REQUESTER, RECEIPT_LINK, ACCEPTANCE_DEADLINE, AUTO_ACCEPT, RECEIPT_STATE, CLAIMED_AT, RECEIPT_CLOSED_AT}
use Rattle.rules.specs.Limits.{OPERATION, ENTRY_AMOUNT, SETTLED_AT}
use Rattle.rules.specs.Table.{all, sum, distinct}
use Rattle.rules.specs.Ledger.{Ledger, wallet, escrow, receipt, wallet_count, escrow_count, receipt_count, entry_count}
use Rattle.rules.specs.Sound.{header_tests, wallet_tests, escrow_tests, link_right, receipt_tests, entry_tests, held_in, credits, sound}
use Rattle.rules.specs.Same.{SameWritten}
use Rattle.rules.proofs.Counts.{sum_ext, distinct_ext}
use Rattle.rules.proofs.SameReads.{head_same, wallet_same, escrow_same, of_escrow_same, receipt_same, entry_same, every_same, has_same}

module _ (K L : Ledger) (a : SameWritten K L) (wide : 8 ≤ L.edition.escrow) where
  header_tests_lem : all (header_tests K) ≡ all (header_tests L)
  header_tests_lem = rw (a.header, a.edition, a.wallets.lengths, a.escrows.lengths, a.receipts.lengths, a.journal.lengths)

  wallet_tests_lem : (i : ℕ) → i < wallet_count L → all (wallet_tests K i) ≡ all (wallet_tests L i)
  wallet_tests_lem i h = let w = wallet_same K L a i h in rw (w ID (lit< tt), w FROZEN (lit< tt))

  escrow_tests_lem : (i : ℕ) → i < escrow_count L → all (escrow_tests K i) ≡ all (escrow_tests L i)
  escrow_tests_lem i h =
      let w = escrow_same K L a wide i h in
      rw (
        w FROM (lit< tt),
        w TO (lit< tt),
        w ESCROW_AMOUNT (lit< tt),
        w ESCROW_DEADLINE (lit< tt),
        w OPENED_AT (lit< tt),
        w ESCROW_CLOSED_AT (lit< tt),
        w ESCROW_STATE (lit< tt),
        has_same K L a (escrow L i FROM),
        has_same K L a (escrow L i TO),
      )

  link_same : (i : ℕ) → i < receipt_count L → link_right K i ≡ link_right L i
  link_same i h =
      let w = receipt_same K L a i h in
      rw (
        w RECEIPT_LINK (lit< tt),
        w REQUESTER (lit< tt),
        w PROVIDER (lit< tt),
        of_escrow_same K L a wide (receipt L i RECEIPT_LINK) (λ x y. eqb x (receipt L i REQUESTER) && eqb y (receipt L i PROVIDER)) FROM TO (lit< tt) (lit< tt),
      )

  receipt_tests_lem : (i : ℕ) → i < receipt_count L → all (receipt_tests K i) ≡ all (receipt_tests L i)
  receipt_tests_lem i h =
      let w = receipt_same K L a i h in
      rw (link_same i h, w ACCEPTANCE_DEADLINE (lit< tt), w CLAIMED_AT (lit< tt), w RECEIPT_CLOSED_AT (lit< tt), w AUTO_ACCEPT (lit< tt), w RECEIPT_STATE (lit< tt))

  entry_tests_lem : (i : ℕ) → i < entry_count L → all (entry_tests K i) ≡ all (entry_tests L i)
  entry_tests_lem i h = let w = entry_same K L a i h in rw (w SETTLED_AT (lit< tt), w OPERATION (lit< tt), w ENTRY_AMOUNT (lit< tt))

  held_same : (id i : ℕ) → i < escrow_count L → held_in K id i ≡ held_in L id i
  unfolding held_in
  held_same id i h = let w = escrow_same K L a wide i h in rw (w FROM (lit< tt), w ESCROW_STATE (lit< tt), w ESCROW_AMOUNT (lit< tt))

  locked_test : (i : ℕ) → i < wallet_count L
      → eqb (wallet K i LOCKED) (sum (escrow_count K) (held_in K (wallet K i ID))) ≡ eqb (wallet L i LOCKED) (sum (escrow_count L) (held_in L (wallet L i ID)))
  locked_test i h =
      let w = wallet_same K L a i h in
      let id : ℕ = wallet L i ID in
      rw (w LOCKED (lit< tt), w ID (lit< tt), head_same K L a ESCROWS, sum_ext (escrow_count L) (held_in K id) (held_in L id) (held_same id))

  distinct_test : distinct (wallet_count K) (λ i. wallet K i ID) ≡ distinct (wallet_count L) (λ i. wallet L i ID)
  distinct_test =
      rw a.header
      (distinct_ext (wallet_count L) (λ i. wallet K i ID) (λ i. wallet L i ID) (λ i h. wallet_same K L a i h ID (lit< tt)))

  credits_same : credits K ≡ credits L
  unfolding credits
  credits_same = rw a.header (sum_ext _ _ _ (λ i h. let w = wallet_same K L a i h in rw (w BALANCE (lit< tt), w LOCKED (lit< tt))))

  pub sound_same : sound K ≡ sound L
  unfolding sound
  sound_same =
      let e = every_same K L a in
      rw (
        header_tests_lem,
        e WALLETS _ _ wallet_tests_lem,
        distinct_test,
        e ESCROWS _ _ escrow_tests_lem,
        e RECEIPTS _ _ receipt_tests_lem,
        e ENTRIES _ _ entry_tests_lem,
        e WALLETS _ _ locked_test,
        credits_same,
        a.header,
      )
