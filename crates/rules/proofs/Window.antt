-- AN ACCEPT NEVER MEETS A STALE ESCROW. In the book a claim's deadline is not after its escrow's (`Timed`): a claim passes check 31, an open names an
-- escrow that no claim was linked to, and nothing else moves either. Tables and book agree, and a reply passes check 41; so an accept finds its escrow
-- open or closed.
use mathlib.Core.Path.{◌≡◌, refl, sym, ap, ap₂, ◌∙◌, subst}
use mathlib.Core.Logic.{◌≢◌}
use mathlib.Core.List.{List, [], ◌∷◌}
use mathlib.Core.Bool.{Bool, true, false, cond, not, ◌&&◌, true≢false}
use Prim.Native.Nat.{ℕ, ◌+◌, ◌-◌, ◌*◌, ◌≤◌, ◌<◌}
use native.Mathlib.Omega.{arith}
use lib.ListN.{get_or, length}
use lib.Dec.{eqb, ltb, leb, lit<}
use borrow.Author.Tests.{eqb-true, eqb-false, le-leb}
use Rattle.rules.specs.Limits.{RECEIPT_LEN, CLAIM, REPLY, SWEEP, ACCEPTS}
use Rattle.rules.specs.Limits.{ESCROW_DEADLINE, ESCROW_STATE, IS_OPEN, RELEASED, RECEIPT_LINK, RECEIPT_STATE, RECEIPT_CLOSED_AT, RECEIPT_CLOSED_BY, ACCEPTED, RELEASE_CODE, RELEASE_IMPOSSIBLE}
use Rattle.rules.specs.Table.{rows_in}
use Rattle.rules.specs.Ledger.{Ledger, Outcome, escrow, receipt, escrow_count, receipt_count, put_head, put_wallet, put_escrow, put_receipt, new_entry}
use Rattle.rules.specs.Record.{read_of}
use Rattle.rules.specs.Refusals.{one_of, replying, releasable, clear}
use Rattle.rules.specs.Settle.{raise, lower, end_escrow, close_receipt, Done, accept_row, operations, idle, operate_by, operate, open_escrow, claim, accept, enter, settle_by, settle, reply}
use Rattle.rules.specs.Submit.{answer_of, submit}
use Rattle.rules.specs.History.{Call, Said, said_of, begun, after, said, Deal, Note, Book, blank, ends, closes, tries, Sweeping, sweep_note, sweep_deal, sweeps, replies}
use Rattle.rules.specs.History.{grants, transfers, opens_escrow, releases, refunds, makes_claim, accepts, disputes, sweeps_due, says_nothing, sayings, enters, hears, book_of}
use Rattle.rules.specs.Promises.{Lent, started}
use Rattle.rules.specs.Window.{linked_to_open, linked_to_closed, AcceptedInTime, AcceptsInTime}
use Rattle.rules.specs.declared.Submission.{Submission}
use Rattle.rules.specs.declared.Read.{Read}
use Rattle.rules.proofs.Bools.{cond_case}
use Rattle.rules.proofs.Rows.{rows_fit, in_table, word_same}
use Rattle.rules.proofs.Moves.{shut, shut_col, length_shut, and_true}
use Rattle.rules.proofs.Formed.{Formed, formed_says, read_formed}
use Rattle.rules.proofs.Calls.{by_answer, by_left, number_is, settled, by_op, by_reply}
use Rattle.rules.proofs.Passed.{link_written, written_row, link_deadline, receipt_row, receipt_pending, reply_in_time}
use Rattle.rules.proofs.Tests.{written_high}
use Rattle.rules.proofs.Demand12.{fresh_zero}
use Rattle.rules.proofs.Lengths.{lent_started}
use Rattle.rules.proofs.SoundAlways.{rows_stay_within}
use Rattle.rules.proofs.Stays.{loop_keeps}
use Rattle.rules.proofs.Agree.{Fits, at_cases}
use Rattle.rules.proofs.Books.{fits_fresh, fits_begun, fits_call, along}

-- ---- the book: a claim's deadline is not after its escrow's

pub record Timed (opens claims : ℕ) (deal : ℕ → Deal) (note : ℕ → Note) : Type 0 where
  pub linked : (i : ℕ) → i < claims → (note i).link ≤ opens
  pub in_time : (i : ℕ) → i < claims → (note i).link ≢ 0 → (note i).until ≤ (deal ((note i).link - 1)).until

abbrev TimedOf : Book → Type 0
TimedOf B = Timed B.opens B.claims B.deal B.note

-- an end and a close leave what was agreed
timed_ends : (paid : Bool) (i : ℕ) (B : Book) → TimedOf B → TimedOf (ends paid i B)
unfolding ends
timed_ends paid i B t = t

timed_closes : (i : ℕ) (B : Book) → TimedOf B → TimedOf (closes i B)
unfolding closes
timed_closes i B t = t

timed_tries : (k now i : ℕ) (B : Book) → TimedOf B → TimedOf (tries k now i B)
unfolding tries
timed_tries k now i B t =
    cond_case TimedOf (eqb k 0) _ _ (λ e. timed_closes i B t)
    (λ e. cond_case TimedOf (B.live (k - 1) && leb now (B.deal (k - 1)).until) _ _ (λ h. timed_ends true (k - 1) (closes i B) (timed_closes i B t)) (λ h. timed_closes i B t))

timed_note : (now i : ℕ) (s : Sweeping) → TimedOf s.book → TimedOf (sweep_note now i s).book
unfolding sweep_note
timed_note now i s t =
    cond_case (λ (z : Sweeping). TimedOf z.book) (ltb 0 s.room && (s.book.pending i && ltb (s.book.note i).until now)) _ s
    (λ e. cond_case TimedOf (eqb (s.book.note i).auto 1) _ _ (λ h. timed_tries _ now i s.book t) (λ h. timed_closes i s.book t)) (λ e. t)

timed_deal : (now i : ℕ) (s : Sweeping) → TimedOf s.book → TimedOf (sweep_deal now i s).book
unfolding sweep_deal
timed_deal now i s t =
    cond_case (λ (z : Sweeping). TimedOf z.book) (ltb 0 s.room && (s.book.live i && ltb (s.book.deal i).until now)) _ s
    (λ e. timed_ends false i s.book t) (λ e. t)

timed_sweeps : (now limit : ℕ) (B : Book) → TimedOf B → TimedOf (sweeps now limit B)
unfolding sweeps
timed_sweeps now limit B t =
    loop_keeps (λ (s : Sweeping). TimedOf s.book) B.opens (sweep_deal now) (λ i l. timed_deal now i) _
    (loop_keeps (λ (s : Sweeping). TimedOf s.book) B.claims (sweep_note now) (λ i l. timed_note now i) (record { room = limit; book = B }) t)

-- an open names an escrow that no claim was linked to
timed_opens : (E : Said) (B : Book) → E.word ≡ B.opens + 1 → TimedOf B → TimedOf (opens_escrow E B)
unfolding opens_escrow
timed_opens E B word_is t = record {
  linked = λ i h. omega (arith, t.linked i h);
  in_time = λ i h some_link.
      at_cases (λ (d : Deal). (B.note i).until ≤ d.until) (E.word - 1) ((B.note i).link - 1) _ B.deal
      (λ e. absurd (omega (arith, e, t.linked i h, some_link))) (λ e. t.in_time i h some_link);
}

-- a claim names a receipt behind the others; its link is 0 or an escrow, whose deadline is not before its own
timed_claim : (E : Said) (B : Book) → E.word ≡ B.claims + 1 → E.submission.link ≤ B.opens
    → (E.submission.link ≢ 0 → E.submission.until ≤ (B.deal (E.submission.link - 1)).until) → TimedOf B → TimedOf (makes_claim E B)
unfolding makes_claim
timed_claim E B word_is low early t = record {
  linked = λ i h. at_cases (λ (n : Note). n.link ≤ B.opens) (E.word - 1) i _ B.note (λ e. low) (λ e. t.linked i (omega (arith, h, e)));
  in_time = λ i h.
      at_cases (λ (n : Note). n.link ≢ 0 → n.until ≤ (B.deal (n.link - 1)).until) (E.word - 1) i _ B.note (λ e. early)
      (λ e. t.in_time i (omega (arith, h, e)));
}

-- ---- one settled submission, and a list of calls

module _ (L : Ledger) (r : Read) (B : Book) (f : Fits L B) (z : answer_of L r ≡ 0) (form : Formed r.submission) (t : TimedOf B) where
  abbrev s : Submission
  s = r.submission

  -- the escrow of a claim's link, as the book has it
  link_low : r.submission.op ≡ CLAIM → s.link ≤ B.opens
  link_low e =
      cond_case (λ (b : Bool). s.link ≤ B.opens) (eqb s.link 0) true true (λ h. omega (arith, eqb-true s.link 0 h))
      (λ h. omega (arith, written_high (escrow_count L) s.link (link_written L r z (ap (one_of (CLAIM ∷ [])) e) (eqb-false s.link 0 h)), f.escs.count))

  link_early : r.submission.op ≡ CLAIM → s.link ≢ 0 → s.until ≤ (B.deal (s.link - 1)).until
  link_early e ne =
      let c = ap (one_of (CLAIM ∷ [])) e in
      omega (arith, link_deadline L r z c ne, f.escs.until (s.link - 1) (written_row (escrow_count L) s.link (link_written L r z c ne)))

  timed_operate :
      TimedOf (get_or sayings (r.submission.op - 1) says_nothing (record { submission = r.submission; number = 0; word = (operate r.submission L).word }) B)
  unfolding operate_by open_escrow claim grants transfers releases refunds accepts disputes replies sweeps_due
  timed_operate =
      by_op
      (λ (o : ℕ). TimedOf (get_or sayings (o - 1) says_nothing (record { submission = s; number = 0; word = (get_or operations (o - 1) idle s L).word }) B))
      s.op form.low form.high form.not_8
      (λ e. t)
      (λ e. t)
      (λ e. timed_opens _ B (ap (λ (n : ℕ). n + 1) f.escs.count) t)
      (λ e. timed_ends true _ B t)
      (λ e. timed_ends false _ B t)
      (λ e. timed_claim _ B (ap (λ (n : ℕ). n + 1) f.recs.count) (link_low e) (link_early e) t)
      (λ e.
      cond_case TimedOf (clear s ACCEPTS) _ _ (λ d. timed_closes _ B t)
      (λ d. cond_case TimedOf (eqb (reply s L).word 0) _ _ (λ h. timed_closes _ B t) (λ h. timed_ends true _ _ (timed_closes _ B t))))
      (λ e. timed_sweeps _ _ B t)
      (λ e. t)
      (λ e. t)
      (λ e. t)

timed_blank : TimedOf blank
timed_blank = record { linked = λ i h. omega arith; in_time = λ i h. absurd (omega (arith, h)) }

timed_call : (L : Ledger) (b : List ℕ) (B : Book) → Lent L → Fits L B → TimedOf B → TimedOf (enters (said_of b (submit L b)) B)
unfolding enters settle_by
timed_call L b B lent f t =
    by_answer (λ (o : Outcome). TimedOf (enters (said_of b o) B)) L b
    (λ e. timed_operate L (read_of b) B f e (formed_says _ (read_formed b (settled L (read_of b) e).formed)) t)
    (λ ne. cond_case TimedOf (eqb (answer_of L (read_of b)) 0) _ B (λ e. absurd (ne (eqb-true (answer_of L (read_of b)) 0 e))) (λ e. t))

record Both (L : Ledger) (B : Book) : Type 0 where
  fits : Fits L B
  timed : TimedOf B

both_all : (L : Ledger) → Lent L → (calls : List Call) → Both (after (started L) calls) (book_of (said (started L) calls))
both_all L lent =
    along Both
    (λ L B lent p. record {
      fits = fits_begun L B lent;
      timed = subst (λ (n : ℕ). TimedOf (hears (begun n) B)) (sym (fresh_zero L lent.lengths)) timed_blank;
    })
    (λ L b B lent p. record { fits = fits_call L b B lent p.fits; timed = timed_call L b B lent p.fits p.timed })
    (started L) blank (lent_started L lent) (record { fits = fits_fresh L lent.lengths; timed = timed_blank })

-- ---- an accept

-- what an accept of the receipt in row i comes to, where its escrow is not stale
record CameTo (L : Ledger) (i : ℕ) (d : Done) : Type 0 where
  word : d.word ≡ cond (linked_to_open L i) (receipt L i RECEIPT_LINK) 0
  code : receipt d.after i RELEASE_CODE ≡ cond (linked_to_closed L i) RELEASE_IMPOSSIBLE 0

module _ (L : Ledger) (i now signer : ℕ) (rows_there : receipt_count L ≤ rows_in RECEIPT_LEN L.receipts) (i< : i < receipt_count L)
    (unset : receipt L i RELEASE_CODE ≡ 0) (in_time : receipt L i RECEIPT_LINK ≢ 0 → now ≤ escrow L (receipt L i RECEIPT_LINK - 1) ESCROW_DEADLINE) where
  -- closing leaves the code
  still_unset : receipt (close_receipt ACCEPTED now signer i L) i RELEASE_CODE ≡ 0
  unfolding close_receipt put_receipt
  still_unset =
      shut_col L.receipts RECEIPT_LEN i RECEIPT_STATE ACCEPTED RECEIPT_CLOSED_AT now RECEIPT_CLOSED_BY signer (lit< tt) (lit< tt) (lit< tt) i RELEASE_CODE
      (lit< tt) (omega arith) (omega arith) (omega arith)
      ∙ unset

  -- and so does a release
  released_unset : (j : ℕ) → receipt (end_escrow RELEASED now signer j (close_receipt ACCEPTED now signer i L)) i RELEASE_CODE ≡ 0
  unfolding end_escrow raise lower put_wallet put_escrow
  released_unset j = still_unset

  stored : receipt (put_receipt i RELEASE_CODE RELEASE_IMPOSSIBLE (close_receipt ACCEPTED now signer i L)) i RELEASE_CODE ≡ RELEASE_IMPOSSIBLE
  unfolding close_receipt put_receipt
  stored =
      let t : List ℕ = shut L.receipts RECEIPT_LEN i RECEIPT_STATE ACCEPTED RECEIPT_CLOSED_AT now RECEIPT_CLOSED_BY signer in
      let whole : length t ≡ length L.receipts =
      length_shut L.receipts RECEIPT_LEN i RECEIPT_STATE ACCEPTED RECEIPT_CLOSED_AT now RECEIPT_CLOSED_BY signer (lit< tt) (lit< tt) (lit< tt) in
      let within : i * RECEIPT_LEN + RELEASE_CODE < length L.receipts =
      in_table RECEIPT_LEN (receipt_count L) i RELEASE_CODE L.receipts (rows_fit RECEIPT_LEN (receipt_count L) L.receipts rows_there) i< (lit< tt) in
      word_same t RECEIPT_LEN i RELEASE_CODE RELEASE_IMPOSSIBLE (omega (arith, whole, within))

  came_to : CameTo L i (accept_row now signer i L)
  unfolding accept_row
  came_to =
      let k : ℕ = receipt L i RECEIPT_LINK in
      let held : Bool = eqb (escrow L (k - 1) ESCROW_STATE) IS_OPEN in
      cond_case (CameTo L i) (eqb k 0) _ _
      (λ e. record {
        word = ap (λ (b : Bool). cond (not b && held) k 0) (sym e);
        code = still_unset ∙ ap (λ (b : Bool). cond (not b && not held) RELEASE_IMPOSSIBLE 0) (sym e);
      })
      (λ e.
      -- open and not stale is open
      let open_is : releasable L now (k - 1) ≡ held =
      ap (λ (b : Bool). held && b) (le-leb _ _ (in_time (eqb-false k 0 e))) ∙ and_true held in
      cond_case (CameTo L i) (releasable L now (k - 1)) _ _
      (λ h. record {
        word = ap₂ (λ (b c : Bool). cond (not b && c) k 0) (sym e) (sym (sym open_is ∙ h));
        code = released_unset (k - 1) ∙ ap₂ (λ (b c : Bool). cond (not b && not c) RELEASE_IMPOSSIBLE 0) (sym e) (sym (sym open_is ∙ h));
      })
      (λ h. record {
        word = ap₂ (λ (b c : Bool). cond (not b && c) k 0) (sym e) (sym (sym open_is ∙ h));
        code = stored ∙ ap₂ (λ (b c : Bool). cond (not b && not c) RELEASE_IMPOSSIBLE 0) (sym e) (sym (sym open_is ∙ h));
      }))

-- clock and journal leave the receipts
receipts_stay : (s : Submission) (L : Ledger) (i c : ℕ) → receipt (settle s L).after i c ≡ receipt (operate s L).after i c
unfolding settle_by enter new_entry put_head
receipts_stay s L i c = cond_case (λ (K : Ledger). receipt K i c ≡ receipt (operate s L).after i c) (eqb s.op SWEEP) _ _ (λ e. refl) (λ e. refl)

module _ (L : Ledger) (B : Book) (f : Fits L B) (t : TimedOf B) (b : List ℕ) (z : answer_of L (read_of b) ≡ 0) (is_reply : (read_of b).submission.op ≡ REPLY)
    (is_accept : clear (read_of b).submission ACCEPTS ≡ false) (rows_there : receipt_count L ≤ rows_in RECEIPT_LEN L.receipts) where
  i : ℕ
  i = (read_of b).submission.target - 1

  replied : one_of replying (read_of b).submission.op ≡ true
  replied = ap (one_of replying) is_reply

  i< : i < receipt_count L
  unfolding i
  i< = receipt_row L (read_of b) z replied

  unset : receipt L i RELEASE_CODE ≡ 0
  unfolding i
  unset = f.recs.code i i< (sym (f.recs.pending i i<) ∙ receipt_pending L (read_of b) z replied)

  -- now is not after the claim's deadline, and that not after the escrow's
  never_stale : receipt L i RECEIPT_LINK ≢ 0 → (read_of b).submission.now ≤ escrow L (receipt L i RECEIPT_LINK - 1) ESCROW_DEADLINE
  unfolding i
  never_stale some_link =
      let k : ℕ = receipt L i RECEIPT_LINK in
      let claimed : i < B.claims = omega (arith, i<, f.recs.count) in
      let early : (B.note i).until ≤ (B.deal (k - 1)).until =
      subst (λ (x : ℕ). x ≢ 0 → (B.note i).until ≤ (B.deal (x - 1)).until) (sym (f.recs.link i i<)) (t.in_time i claimed) some_link in
      omega (
        arith,
        reply_in_time L (read_of b) z replied,
        f.recs.until i i<,
        early,
        f.escs.until (k - 1) (omega (arith, f.recs.link i i<, t.linked i claimed, f.escs.count, some_link)),
      )

  came : CameTo L i (operate (read_of b).submission L)
  unfolding operate_by accept i
  came =
      subst (λ (o : ℕ). CameTo L i (get_or operations (o - 1) idle (read_of b).submission L)) (sym is_reply)
      (by_reply (CameTo L i) (read_of b).submission L (λ d. absurd (true≢false (sym d ∙ is_accept))) (λ d. came_to L i _ _ rows_there i< unset never_stale))

  accepted_in_time : AcceptedInTime L b ((read_of b).submission.target - 1)
  unfolding i settle_by
  accepted_in_time = record {
    not_stale = never_stale;
    word = by_answer (λ (o : Outcome). o.word ≡ cond (linked_to_open L i) (receipt L i RECEIPT_LINK) 0) L b (λ e. came.word) (λ ne. absurd (ne z));
    code = by_left (λ (K : Ledger). receipt K i RELEASE_CODE ≡ cond (linked_to_closed L i) RELEASE_IMPOSSIBLE 0) L b
        (λ e. receipts_stay (read_of b).submission L i RELEASE_CODE ∙ came.code) (λ ne. absurd (ne z));
  }

pub accepts_in_time : AcceptsInTime
accepts_in_time L lent calls b zero is_reply is_accept =
    let M : Ledger = after (started L) calls in
    let p : Both M (book_of (said (started L) calls)) = both_all L lent calls in
    accepted_in_time M _ p.fits p.timed b (sym (number_is M b) ∙ zero) is_reply is_accept (rows_stay_within L lent calls).receipts
