-- Demand 3: calls on a ledger in the order made, what they leave, what was said; and the book that submissions and answers make of
-- themselves, with no table read. Starting afresh begins the book again.
use Rattle.std.specs.Prelude.{List, [], ◌∷◌, ◌++◌, Bool, true, false, cond, not, ◌&&◌, ℕ, ◌+◌, ◌-◌, get_or, eqb, ltb, leb}
use Rattle.rules.specs.Limits.{AUTO_OR_FREEZE, ACCEPTS}
use Rattle.rules.specs.Table.{loop}
use Rattle.rules.specs.Ledger.{Ledger, Outcome, fresh}
use Rattle.rules.specs.Record.{read_of, bit}
use Rattle.rules.specs.Refusals.{clear}
use Rattle.rules.specs.Submit.{submit}
use Rattle.rules.specs.declared.Submission.{Submission}

-- a public call
pub data Call : Type 0 where
  starts_afresh : Call
  submits : List ℕ → Call
  reads : List ℕ → Call
  writes : Submission → List ℕ → Call
  asks_status : ℕ → Call
  finds_wallet : ℕ → Call
  finds_escrow : ℕ → Call
  finds_receipt : ℕ → Call

-- what was submitted, as it is read, and what was answered
pub record Said : Type 0 where
  pub submission : Submission
  pub number : ℕ
  pub word : ℕ

abbrev pub said_of : List ℕ → Outcome → Said
said_of bytes o = record { submission = (read_of bytes).submission; number = o.number; word = o.word }

-- what a call adds to the history: a submission and its answer, or the answer to a start afresh
pub data Event : Type 0 where
  submitted : Said → Event
  begun : ℕ → Event

-- one call: the ledger that it leaves, and what was said; a read, a write, a status and a lookup change and say nothing
abbrev pub leaves : Ledger → Call → Ledger
leaves L starts_afresh = (fresh L).left
leaves L (submits b) = (submit L b).left
leaves L (reads b) = L
leaves L (writes s out) = L
leaves L (asks_status n) = L
leaves L (finds_wallet id) = L
leaves L (finds_escrow k) = L
leaves L (finds_receipt k) = L

abbrev pub says : Ledger → Call → List Event
says L starts_afresh = begun (fresh L).number ∷ []
says L (submits b) = submitted (said_of b (submit L b)) ∷ []
says L (reads b) = []
says L (writes s out) = []
says L (asks_status n) = []
says L (finds_wallet id) = []
says L (finds_escrow k) = []
says L (finds_receipt k) = []

-- a list of calls in the order made
abbrev pub after : Ledger → List Call → Ledger
after L [] = L
after L (c ∷ cs) = after (leaves L c) cs

abbrev pub said : Ledger → List Call → List Event
said L [] = []
said L (c ∷ cs) = says L c ++ said (leaves L c) cs

-- no start afresh was answered 0
abbrev pub unbroken : List Event → Bool
unbroken [] = true
unbroken (begun n ∷ es) = not (eqb n 0) && unbroken es
unbroken (submitted e ∷ es) = unbroken es

-- what an open says of its escrow, and a claim of its receipt
pub record Deal : Type 0 where
  pub from : ℕ
  pub to : ℕ
  pub amount : ℕ
  pub until : ℕ

pub record Note : Type 0 where
  pub link : ℕ
  pub until : ℕ
  pub auto : ℕ

-- THE BOOK. Escrow number k stands at k - 1, and so does receipt number k. `came` and `went` are the credits that came to a wallet's balance
-- and went from it; `held` is its opens, and `freed` those of them that ended.
pub record Book : Type 0 where
  pub opens : ℕ
  pub deal : ℕ → Deal
  pub live : ℕ → Bool
  pub claims : ℕ
  pub note : ℕ → Note
  pub pending : ℕ → Bool
  pub came : ℕ → ℕ
  pub went : ℕ → ℕ
  pub held : ℕ → ℕ
  pub freed : ℕ → ℕ
  pub granted : ℕ

-- f with x at k
abbrev pub at : {A : Type 0} → ℕ → A → (ℕ → A) → ℕ → A
at k x f j = cond (eqb j k) x (f j)

-- f with a more for the wallet of id
abbrev pub plus : ℕ → ℕ → (ℕ → ℕ) → ℕ → ℕ
plus id a f v = f v + cond (eqb v id) a 0

abbrev pub blank : Book
blank = record {
  opens = 0;
  deal = λ i. record { from = 0; to = 0; amount = 0; until = 0 };
  live = λ i. false;
  claims = 0;
  note = λ i. record { link = 0; until = 0; auto = 0 };
  pending = λ i. false;
  came = λ v. 0;
  went = λ v. 0;
  held = λ v. 0;
  freed = λ v. 0;
  granted = 0;
}

-- an escrow ends: paid to its recipient, or back to its sender
unfoldable pub ends : Bool → ℕ → Book → Book
ends paid i B = record {
  opens = B.opens;
  deal = B.deal;
  live = at i false B.live;
  claims = B.claims;
  note = B.note;
  pending = B.pending;
  came = plus (cond paid (B.deal i).to (B.deal i).from) (B.deal i).amount B.came;
  went = B.went;
  held = B.held;
  freed = plus (B.deal i).from (B.deal i).amount B.freed;
  granted = B.granted;
}

-- a receipt is closed
unfoldable pub closes : ℕ → Book → Book
closes i B = record {
  opens = B.opens;
  deal = B.deal;
  live = B.live;
  claims = B.claims;
  note = B.note;
  pending = at i false B.pending;
  came = B.came;
  went = B.went;
  held = B.held;
  freed = B.freed;
  granted = B.granted;
}

-- a receipt is accepted by a sweep: the escrow k that it is linked to is released if it is open and not stale
unfoldable pub tries : ℕ → ℕ → ℕ → Book → Book
tries k now i B =
    cond (eqb k 0) (closes i B)
    (cond (B.live (k - 1) && leb now (B.deal (k - 1)).until) (ends true (k - 1) (closes i B)) (closes i B))

-- a sweep by its rule: due receipts in order, then due escrows in order, while there is room
pub record Sweeping : Type 0 where
  pub room : ℕ
  pub book : Book

unfoldable pub sweep_note : ℕ → ℕ → Sweeping → Sweeping
sweep_note now i s =
    let B = s.book in
    cond (ltb 0 s.room && (B.pending i && ltb (B.note i).until now))
    (record { room = s.room - 1; book = cond (eqb (B.note i).auto 1) (tries (B.note i).link now i B) (closes i B) }) s

unfoldable pub sweep_deal : ℕ → ℕ → Sweeping → Sweeping
sweep_deal now i s =
    let B = s.book in
    cond (ltb 0 s.room && (B.live i && ltb (B.deal i).until now)) (record { room = s.room - 1; book = ends false i B }) s

unfoldable pub sweeps : ℕ → ℕ → Book → Book
sweeps now limit B = (loop B.opens (sweep_deal now) (loop B.claims (sweep_note now) (record { room = limit; book = B }))).book

-- what a settled submission says, by its operation
unfoldable pub grants : Said → Book → Book
grants e B = record {
  opens = B.opens;
  deal = B.deal;
  live = B.live;
  claims = B.claims;
  note = B.note;
  pending = B.pending;
  came = plus e.submission.target e.submission.amount B.came;
  went = B.went;
  held = B.held;
  freed = B.freed;
  granted = B.granted + e.submission.amount;
}

unfoldable pub transfers : Said → Book → Book
transfers e B = record {
  opens = B.opens;
  deal = B.deal;
  live = B.live;
  claims = B.claims;
  note = B.note;
  pending = B.pending;
  came = plus e.submission.target e.submission.amount B.came;
  went = plus e.submission.signer e.submission.amount B.went;
  held = B.held;
  freed = B.freed;
  granted = B.granted;
}

-- an open's word names its escrow
unfoldable pub opens_escrow : Said → Book → Book
opens_escrow e B = record {
  opens = B.opens + 1;
  live = at (e.word - 1) true B.live;
  deal =
      at (e.word - 1)
      (record { from = e.submission.signer; to = e.submission.target; amount = e.submission.amount; until = e.submission.until })
      B.deal;
  claims = B.claims;
  note = B.note;
  pending = B.pending;
  came = B.came;
  went = plus e.submission.signer e.submission.amount B.went;
  held = plus e.submission.signer e.submission.amount B.held;
  freed = B.freed;
  granted = B.granted;
}

-- a release's or refund's target names the escrow that ended
unfoldable pub releases : Said → Book → Book
releases e B = ends true (e.submission.target - 1) B

unfoldable pub refunds : Said → Book → Book
refunds e B = ends false (e.submission.target - 1) B

-- a claim's word names its receipt
unfoldable pub makes_claim : Said → Book → Book
makes_claim e B = record {
  opens = B.opens;
  deal = B.deal;
  live = B.live;
  claims = B.claims + 1;
  note =
      at (e.word - 1)
      (record { link = e.submission.link; until = e.submission.until; auto = bit AUTO_OR_FREEZE e.submission.flags }) B.note;
  pending = at (e.word - 1) true B.pending;
  came = B.came;
  went = B.went;
  held = B.held;
  freed = B.freed;
  granted = B.granted;
}

-- an accept's word names the escrow that ended
unfoldable pub accepts : Said → Book → Book
accepts e B =
    cond (eqb e.word 0) (closes (e.submission.target - 1) B) (ends true (e.word - 1) (closes (e.submission.target - 1) B))

unfoldable pub disputes : Said → Book → Book
disputes e B = closes (e.submission.target - 1) B

-- a reply is one or the other, by its bit 2
unfoldable pub replies : Said → Book → Book
replies e B = cond (clear e.submission ACCEPTS) (disputes e B) (accepts e B)

unfoldable pub sweeps_due : Said → Book → Book
sweeps_due e B = sweeps e.submission.now e.submission.amount B

abbrev pub says_nothing : Said → Book → Book
says_nothing e B = B

-- by the operations' numbers, from 1 on; 8 is none
abbrev pub sayings : List (Said → Book → Book)
sayings =
    grants ∷ transfers ∷ opens_escrow ∷ releases ∷ refunds ∷ makes_claim ∷ replies ∷ says_nothing ∷ sweeps_due ∷ says_nothing ∷ says_nothing ∷ says_nothing ∷ []

-- a refused submission says nothing
unfoldable pub enters : Said → Book → Book
enters e B = cond (eqb e.number 0) (get_or sayings (e.submission.op - 1) says_nothing e B) B

-- a start afresh that is answered 0 begins the book again
abbrev pub hears : Event → Book → Book
hears (begun n) B = cond (eqb n 0) blank B
hears (submitted e) B = enters e B

abbrev pub book_from : Book → List Event → Book
book_from B [] = B
book_from B (e ∷ es) = book_from (hears e B) es

abbrev pub book_of : List Event → Book
book_of es = book_from blank es
