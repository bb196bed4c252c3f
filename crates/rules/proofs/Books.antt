-- THE BOOKS: over any list of calls from a fresh ledger, the tables have what the submissions and answers say. Tables and book agree at the
-- start, after a settled submission (each operation's need is a refusal that did not hold, and soundness is one of them), after a refusal,
-- which changes neither, and so after the whole list.
use mathlib.Core.Path.{◌≡◌, refl, sym, ap, ◌∙◌, subst}
use mathlib.Core.List.{List, [], ◌∷◌}
use mathlib.Core.Bool.{Bool, true, false, cond, true≢false}
use Prim.Native.Nat.{ℕ, ◌+◌, ◌-◌, ◌≤◌, ◌<◌}
use native.Mathlib.Omega.{arith}
use lib.ListN.{get_or, length}
use lib.Dec.{eqb}
use borrow.Author.Tests.{ltb-false, eqb-true}
use Rattle.rules.specs.Limits.{GRANTED, WALLETS, ESCROWS, RECEIPTS, ID, BALANCE, LOCKED, GRANT, TRANSFER, OPEN, RELEASE, REFUND, CLAIM, REPLY, SWEEP, ACCEPTS}
use Rattle.rules.specs.Ledger.{Ledger, Outcome, outcome, wallet, wallet_count, row_of, lengths_right, set_header, fresh_header, fresh, receipt_count}
use Rattle.rules.specs.Record.{read_of}
use Rattle.rules.specs.Sound.{credits}
use Rattle.rules.specs.Refusals.{one_of, paying, closing, replying, clear}
use Rattle.rules.specs.Settle.{operations, idle, operate_by, operate, settle_by, open_escrow, claim, reply, accept, dispute, Done}
use Rattle.rules.specs.Submit.{answer_of, submit}
use Rattle.rules.specs.History.{Call, starts_afresh, submits, reads, writes, asks_status, finds_wallet, finds_escrow, finds_receipt, Said, said_of, Event, begun, after, said, Book, blank, sayings, says_nothing, enters, hears, book_from, book_of, replies, disputes, accepts}
use Rattle.rules.specs.Promises.{Lent, started, AddsUp, TheBooks}
use Rattle.rules.specs.declared.Submission.{Submission}
use Rattle.rules.specs.declared.Read.{Read}
use Rattle.rules.proofs.Bools.{cond_case}
use Rattle.rules.proofs.Rows.{zeros}
use Rattle.rules.proofs.Counts.{sum_none}
use Rattle.rules.proofs.Tests.{header_wide}
use Rattle.rules.proofs.Formed.{Formed, formed_says, read_formed}
use Rattle.rules.proofs.Accounts.{bal, bal_found, bal_missing, own}
use Rattle.rules.proofs.Good.{Good, good_of}
use Rattle.rules.proofs.Calls.{by_answer, settled, by_op}
use Rattle.rules.proofs.Passed.{sender_row, sender_has, target_some, escrow_row, escrow_open, receipt_row, wallet_place, escrow_place, receipt_place}
use Rattle.rules.proofs.Demand12.{fresh_zero}
use Rattle.rules.proofs.Lengths.{lengths_submit, lent_stays, lent_started}
use Rattle.rules.proofs.Agree.{Fits}
use Rattle.rules.proofs.Changes.{fits_make, fits_clock, fits_enter}
use Rattle.rules.proofs.Operations.{fits_grant, fits_transfer, fits_open, fits_release, fits_refund, fits_claim, fits_accepts, fits_dispute, fits_sweeps, fits_freeze, fits_caps, fits_shut}

-- ---- one settled submission

-- the operations that may make a wallet, and those that name a party
abbrev making : List ℕ
making = GRANT ∷ TRANSFER ∷ OPEN ∷ []

abbrev targeted : List ℕ
targeted = GRANT ∷ TRANSFER ∷ OPEN ∷ CLAIM ∷ []

-- what is said of a settled submission that did this, and of one whose operation is o
abbrev told : Submission → Done → Said
told s d = record { submission = s; number = 0; word = d.word }

abbrev said_at : ℕ → Submission → Ledger → Said
said_at o s L = told s (get_or operations (o - 1) idle s L)

abbrev Together : Submission → Ledger → Book → ℕ → Type 0
Together s L B o = Fits (get_or operations (o - 1) idle s L).after (get_or sayings (o - 1) says_nothing (said_at o s L) B)

module _ (L : Ledger) (r : Read) (B : Book) (lent : Lent L) (f : Fits L B) (z : answer_of L r ≡ 0) (form : Formed r.submission) where
  abbrev s : Submission
  s = r.submission

  g : Good L
  g = good_of L lent.escrow (settled L r z).is_sound

  wide : 8 ≤ length L.header
  wide = header_wide L lent.lengths lent.header

  some_target : one_of targeted r.submission.op ≡ true → 0 < r.submission.target
  some_target t = omega (arith, target_some L r z t)

  enough : one_of paying r.submission.op ≡ true → r.submission.amount ≤ bal L.wallets (wallet_count L) r.submission.signer BALANCE
  enough t =
      subst (λ (x : ℕ). s.amount ≤ x) (sym (bal_found L.wallets (wallet_count L) s.signer BALANCE (sender_row L r z t))) (sender_has L r z t)

  -- both sides go by bit 2
  fits_reply : s.op ≡ REPLY → Together s L B REPLY
  unfolding reply replies
  fits_reply e = go (clear s ACCEPTS)
    where
      i< : s.target - 1 < receipt_count L
      i< = receipt_row L r z (ap (one_of replying) e)

      go : (b : Bool)
          → Fits (cond b (dispute s L) (accept s L)).after
          (cond b (disputes (told s (cond b (dispute s L) (accept s L))) B) (accepts (told s (cond b (dispute s L) (accept s L))) B))
      go true = fits_dispute (told s (dispute s L)) L B g f i<
      go false = fits_accepts (told s (accept s L)) L B g f i< form.now_right refl

  fits_operate :
      Fits (operate r.submission L).after
      (get_or sayings (r.submission.op - 1) says_nothing (record { submission = r.submission; number = 0; word = (operate r.submission L).word }) B)
  unfolding operate_by open_escrow claim
  fits_operate =
      by_op (Together s L B) s.op form.low form.high form.not_8
      (λ e. fits_grant (said_at GRANT s L) L B g f wide (some_target (ap (one_of targeted) e)) (wallet_place L r z (ap (one_of making) e)))
      (λ e.
      fits_transfer (said_at TRANSFER s L) L B g f wide (some_target (ap (one_of targeted) e)) (wallet_place L r z (ap (one_of making) e))
      (sender_row L r z (ap (one_of paying) e)) (enough (ap (one_of paying) e)))
      (λ e.
      fits_open (said_at OPEN s L) L B g f wide (some_target (ap (one_of targeted) e)) (wallet_place L r z (ap (one_of making) e))
      (sender_row L r z (ap (one_of paying) e)) (enough (ap (one_of paying) e)) (escrow_place L r z (ap (one_of (OPEN ∷ [])) e)) refl)
      (λ e. fits_release (said_at RELEASE s L) L B g f (escrow_row L r z (ap (one_of closing) e)) (escrow_open L r z (ap (one_of closing) e)))
      (λ e. fits_refund (said_at REFUND s L) L B g f (escrow_row L r z (ap (one_of closing) e)) (escrow_open L r z (ap (one_of closing) e)))
      (λ e. fits_claim (said_at CLAIM s L) L B f wide (receipt_place L r z (ap (one_of (CLAIM ∷ [])) e)) refl)
      fits_reply
      (λ e. fits_sweeps (said_at SWEEP s L) L B g f form.now_right)
      (λ e. fits_freeze s L B f)
      (λ e. fits_caps s L B f)
      (λ e. fits_shut s L B f)

-- ---- starting afresh

none : (i : ℕ) → i < 0 → ⊥
none i l = omega arith

-- a fresh ledger and the blank book
pub fits_fresh : (L : Ledger) → lengths_right L ≡ true → Fits (started L) blank
unfolding fresh
fits_fresh L h =
    cond_case (λ (o : Outcome). Fits o.left blank) (lengths_right L) (outcome 0 0 (set_header (fresh_header L.edition) L)) (outcome 1 0 L)
    (λ e.
    let m : ℕ = L.edition.header - 1 in
    fits_make (set_header (fresh_header L.edition) L) blank 0 0 0 0 (zeros m (WALLETS - 1)) (zeros m (GRANTED - 1)) (zeros m (ESCROWS - 1))
    (zeros m (RECEIPTS - 1))
    (record { distinct = λ i l. absurd (none i l); balances = λ v. omega (arith, bal_missing L.wallets 0 v BALANCE (omega arith)); helds = λ v. omega (arith, bal_missing L.wallets 0 v LOCKED (omega arith)); totals = sum_none _; grants = refl })
    (record {
      count = refl;
      from = λ i l. absurd (none i l);
      to = λ i l. absurd (none i l);
      amount = λ i l. absurd (none i l);
      until = λ i l. absurd (none i l);
      live = λ i l. absurd (none i l);
    })
    (record {
      count = refl;
      link = λ i l. absurd (none i l);
      until = λ i l. absurd (none i l);
      auto = λ i l. absurd (none i l);
      pending = λ i l. absurd (none i l);
      code = λ i l. absurd (none i l);
    }))
    (λ e. absurd (true≢false (sym h ∙ e)))

-- so the book begins again with the ledger
pub fits_begun : (L : Ledger) (B : Book) → Lent L → Fits (started L) (hears (begun (fresh L).number) B)
fits_begun L B lent = subst (λ (n : ℕ). Fits (started L) (hears (begun n) B)) (sym (fresh_zero L lent.lengths)) (fits_fresh L lent.lengths)

-- ---- one call, and a list of calls

pub fits_call : (L : Ledger) (b : List ℕ) (B : Book) → Lent L → Fits L B → Fits (submit L b).left (enters (said_of b (submit L b)) B)
unfolding enters settle_by
fits_call L b B lent f =
    by_answer (λ (o : Outcome). Fits o.left (enters (said_of b o) B)) L b
    (λ e.
    fits_enter z (operate z L).word _ _
    (fits_clock z.now _ _ (fits_operate L (read_of b) B lent f e (formed_says z (read_formed b (settled L (read_of b) e).formed)))))
    (λ ne. cond_case (Fits L) (eqb (answer_of L (read_of b)) 0) _ B (λ e. absurd (ne (eqb-true (answer_of L (read_of b)) 0 e))) (λ e. f))
  where
    z : Submission
    z = (read_of b).submission

-- what a start afresh and a submission keep of ledger and book, a list of calls keeps
module _ (P : Ledger → Book → Type 0) (begins : (L : Ledger) (B : Book) → Lent L → P L B → P (started L) (hears (begun (fresh L).number) B))
    (goes_on : (L : Ledger) (b : List ℕ) (B : Book) → Lent L → P L B → P (submit L b).left (enters (said_of b (submit L b)) B)) where
  pub along : (L : Ledger) (B : Book) → Lent L → P L B → (calls : List Call) → P (after L calls) (book_from B (said L calls))
  along L B lent p [] = p
  along L B lent p (starts_afresh ∷ cs) = along (started L) (hears (begun (fresh L).number) B) (lent_started L lent) (begins L B lent p) cs
  along L B lent p (submits b ∷ cs) =
      along (submit L b).left (enters (said_of b (submit L b)) B) (lent_stays (lengths_submit L b) lent) (goes_on L b B lent p) cs
  along L B lent p (reads b ∷ cs) = along L B lent p cs
  along L B lent p (writes s out ∷ cs) = along L B lent p cs
  along L B lent p (asks_status n ∷ cs) = along L B lent p cs
  along L B lent p (finds_wallet id ∷ cs) = along L B lent p cs
  along L B lent p (finds_escrow k ∷ cs) = along L B lent p cs
  along L B lent p (finds_receipt k ∷ cs) = along L B lent p cs

pub fits_all : (L : Ledger) (B : Book) → Lent L → Fits L B → (calls : List Call) → Fits (after L calls) (book_from B (said L calls))
fits_all = along Fits (λ L B lent f. fits_begun L B lent) fits_call

-- ---- the theorem

pub adds_up : (L : Ledger) (es : List Event) → Fits L (book_of es) → AddsUp L es
unfolding credits
adds_up L es f =
    let t : List ℕ = L.wallets in
    let n : ℕ = wallet_count L in
    let B : Book = book_of es in
    record {
      balance = λ i l. ap (λ (x : ℕ). x + B.went (wallet L i ID)) (sym (own t n i BALANCE f.acc.distinct l)) ∙ f.acc.balances (wallet L i ID);
      held = λ i l. ap (λ (x : ℕ). x + B.freed (wallet L i ID)) (sym (own t n i LOCKED f.acc.distinct l)) ∙ f.acc.helds (wallet L i ID);
      nobody = λ v e.
          let no_row : n ≤ row_of t n v = ltb-false _ _ e in (
            omega (arith, bal_missing t n v BALANCE no_row, f.acc.balances v),
            omega (arith, bal_missing t n v LOCKED no_row, f.acc.helds v),
          );
      grants = f.acc.totals;
    }

pub the_books : TheBooks
the_books L lent calls = adds_up (after (started L) calls) (said (started L) calls) (fits_all (started L) blank (lent_started L lent) (fits_fresh L lent.lengths) calls)
