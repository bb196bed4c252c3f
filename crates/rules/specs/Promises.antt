-- THE PROMISES: the three demands as statements about the definitions. Their proofs stand in proofs/, under the same names in small letters.
use Rattle.std.specs.Prelude.{◌≡◌, ◌≢◌, ◌⊎◌, List, [], ◌∷◌, ◌++◌, Bool, true, false, not, ◌&&◌, ℕ, ◌+◌, ◌≤◌, ◌<◌, ◌^◌, min, get_or, length, replicate}
use Rattle.rules.specs.Limits.{HEADER_LEN, WALLET_LEN, ESCROW_LEN, RECEIPT_LEN, JOURNAL_LEN, RECORD_BYTES, ID, BALANCE, LOCKED, SWEEP, LAST_ANSWER, WALLET_MISSING, WALLET_LIVE, WALLET_CLOSED}
use Rattle.rules.specs.Table.{rows_in}
use Rattle.rules.specs.Ledger.{Edition, Ledger, ledger, outcome, wallet, wallet_count, escrow_count, receipt_count, entry_count, has_wallet, set_header, lengths_right, fresh_header, fresh}
use Rattle.rules.specs.Record.{read_of, nothing, write_of}
use Rattle.rules.specs.Sound.{sound, credits}
use Rattle.rules.specs.Refusals.{Refusal, row, refusals}
use Rattle.rules.specs.Settle.{settle, swept}
use Rattle.rules.specs.Submit.{submit}
use Rattle.rules.specs.Lookup.{escrow_part, receipt_part, wallet_state}
use Rattle.rules.specs.Wallets.{standing_of}
use Rattle.rules.specs.History.{Call, Event, after, said, unbroken, book_of}
use Rattle.rules.specs.Due.{due, first_due_closed}
use Rattle.rules.specs.declared.Submission.{Submission}
use Rattle.rules.specs.declared.Standing.{Standing}

-- ---- What is spoken of

-- lent tables of right lengths, whatever their words, of an edition that has all the named words
pub record Lent (L : Ledger) : Type 0 where
  pub lengths : lengths_right L ≡ true
  pub header : HEADER_LEN ≤ L.edition.header
  pub escrow : ESCROW_LEN ≤ L.edition.escrow

-- there are such tables: those of one row each
abbrev pub one_row : Ledger
one_row =
    ledger (replicate HEADER_LEN 0) (replicate WALLET_LEN 0) (replicate ESCROW_LEN 0) (replicate RECEIPT_LEN 0) (replicate JOURNAL_LEN 0)

abbrev pub SomeAreLent : Type 0
SomeAreLent = Lent one_row

abbrev pub started : Ledger → Ledger
started L = (fresh L).left

-- the bytes are refused: a number that is not 0, the word 0, and the ledger as it was
pub record Refused (L : Ledger) (b : List ℕ) : Type 0 where
  pub number : (submit L b).number ≢ 0
  pub word : (submit L b).word ≡ 0
  pub left : (submit L b).left ≡ L

-- no condition holds
abbrev pub none : List Refusal → Bool
none [] = true
none (r ∷ rs) = not r.holds && none rs

-- n is the number of the first row that holds
pub record IsFirst (n : ℕ) (rows : List Refusal) : Type 0 where
  pub before : List Refusal
  pub behind : List Refusal
  pub parts : rows ≡ before ++ (row n true ∷ behind)
  pub passed : none before ≡ true

-- ---- Demand 1: every answer is on the list, and a refusal changes nothing

abbrev pub OnTheList : Type 0
OnTheList = (L : Ledger) (b : List ℕ) → (submit L b).number ≤ LAST_ANSWER

abbrev pub RefusalChangesNothing : Type 0
RefusalChangesNothing = (L : Ledger) (b : List ℕ) → (submit L b).number ≢ 0 → Refused L b

-- the lengths are right and the header is the edition's number and zeros, or they are not and nothing is changed
abbrev pub FreshAnswers : Type 0
FreshAnswers =
    (L : Ledger) →
    ((lengths_right L ≡ true) × (fresh L ≡ outcome 0 0 (set_header (fresh_header L.edition) L)))
    ⊎ ((lengths_right L ≡ false) × (fresh L ≡ outcome 1 0 L))

abbrev pub ReadAnswers : Type 0
ReadAnswers = (b : List ℕ) → ((read_of b).number ≡ 0) ⊎ (((read_of b).number ≡ 3) × ((read_of b).submission ≡ nothing))

abbrev pub WriteAnswers : Type 0
WriteAnswers = (s : Submission) (out : List ℕ) → ((write_of s out).number ≡ 0) ⊎ (((write_of s out).number ≡ 3) × ((write_of s out).out ≡ out))

-- missing and 0, or live or closed and the number of one of these rows
abbrev pub Stands : ℕ → Standing → Type 0
Stands rows x =
    ((x.state ≡ WALLET_MISSING) × (x.number ≡ 0))
    ⊎ (((x.state ≡ WALLET_LIVE) ⊎ (x.state ≡ WALLET_CLOSED)) × (1 ≤ x.number) × (x.number ≤ rows))

-- a lookup finds a whole row or nothing; of a wallet, whether it is missing, live or closed, and its row's number or 0
abbrev pub PartAnswers : Type 0
PartAnswers =
    (e : Edition) (header t : List ℕ) (k : ℕ) →
    ((escrow_part e header t k ≡ []) ⊎ (length (escrow_part e header t k) ≡ e.escrow))
    × ((receipt_part e header t k ≡ []) ⊎ (length (receipt_part e header t k) ≡ RECEIPT_LEN))
    × Stands (rows_in WALLET_LEN t) (standing_of (wallet_state e header t k))

-- ---- Demand 2: settled exactly when no check refuses, otherwise the first refusal; the ledger laid down; the record read back

abbrev pub SettlesExactly : Type 0
SettlesExactly =
    (L : Ledger) (b : List ℕ) →
    ((submit L b).number ≡ 0 → none (refusals L (read_of b)) ≡ true) × (none (refusals L (read_of b)) ≡ true → (submit L b).number ≡ 0)

abbrev pub FirstRefusal : Type 0
FirstRefusal = (L : Ledger) (b : List ℕ) → (submit L b).number ≢ 0 → IsFirst (submit L b).number (refusals L (read_of b))

abbrev pub LaidDown : Type 0
LaidDown =
    (L : Ledger) (b : List ℕ) → (submit L b).number ≡ 0 →
    submit L b ≡ outcome 0 (settle (read_of b).submission L).word (settle (read_of b).submission L).after

-- a sweep counts the smaller of its limit and the due rows before the call, and closes the first of those in order
abbrev pub SweepCounts : Type 0
SweepCounts = (now limit : ℕ) (L : Ledger) → ESCROW_LEN ≤ L.edition.escrow → (swept now limit L).closed ≡ min limit (due L now)

abbrev pub SweepAnswers : Type 0
SweepAnswers =
    (L : Ledger) (b : List ℕ) → ESCROW_LEN ≤ L.edition.escrow → (submit L b).number ≡ 0 → (read_of b).submission.op ≡ SWEEP →
    (submit L b).word ≡ min (read_of b).submission.amount (due L (read_of b).submission.now)

abbrev pub SweepCloses : Type 0
SweepCloses = (now limit : ℕ) (L : Ledger) → ESCROW_LEN ≤ L.edition.escrow → (swept now limit L).tables ≡ first_due_closed now limit L

-- the fields fit the record's bytes and words, as every value of the struct does
pub record Fields (s : Submission) : Type 0 where
  pub op : s.op < 256
  pub flags : s.flags < 256
  pub now : s.now < 2 ^ 64
  pub signer : s.signer < 2 ^ 64
  pub nonce : s.nonce < 2 ^ 64
  pub issued : s.issued < 2 ^ 64
  pub expires : s.expires < 2 ^ 64
  pub target : s.target < 2 ^ 64
  pub amount : s.amount < 2 ^ 64
  pub until : s.until < 2 ^ 64
  pub link : s.link < 2 ^ 64
  pub hash0 : s.hash0 < 2 ^ 64
  pub hash1 : s.hash1 < 2 ^ 64
  pub hash2 : s.hash2 < 2 ^ 64
  pub hash3 : s.hash3 < 2 ^ 64

abbrev pub Bytes : List ℕ → Type 0
Bytes b = (i : ℕ) → get_or b i 0 < 256

abbrev pub WrittenRead : Type 0
WrittenRead =
    (s : Submission) (out : List ℕ) → Fields s → (write_of s out).number ≡ 0 →
    read_of (write_of s out).out ≡ record { number = 0; submission = s }

abbrev pub ReadWritten : Type 0
ReadWritten =
    (b out : List ℕ) → Bytes b → (read_of b).number ≡ 0 → length out ≡ RECORD_BYTES →
    write_of (read_of b).submission out ≡ record { number = 0; out = b }

-- ---- Demand 3: from a fresh ledger, over any list of calls in the order made

-- THE RETRY. Once a submission other than a sweep has settled, no later one with its signer and nonce changes anything, as long as the ledger
-- is not started afresh.
abbrev pub ReplayGuard : Type 0
ReplayGuard =
    (L : Ledger) → HEADER_LEN ≤ L.edition.header → (b : List ℕ) (between : List Call) (c : List ℕ) →
    (submit L b).number ≡ 0 → (read_of b).submission.op ≢ SWEEP → unbroken (said (submit L b).left between) ≡ true →
    (read_of c).submission.signer ≡ (read_of b).submission.signer → (read_of c).submission.nonce ≡ (read_of b).submission.nonce →
    Refused (after (submit L b).left between) c

-- what the tables have is what the submissions and answers say
pub record AddsUp (L : Ledger) (es : List Event) : Type 0 where
  pub balance :
      (i : ℕ) → i < wallet_count L → wallet L i BALANCE + (book_of es).went (wallet L i ID) ≡ (book_of es).came (wallet L i ID)
  pub held : (i : ℕ) → i < wallet_count L → wallet L i LOCKED + (book_of es).freed (wallet L i ID) ≡ (book_of es).held (wallet L i ID)
  pub nobody : (id : ℕ) → has_wallet L id ≡ false → ((book_of es).went id ≡ (book_of es).came id) × ((book_of es).freed id ≡ (book_of es).held id)
  pub grants : credits L ≡ (book_of es).granted

abbrev pub TheBooks : Type 0
TheBooks = (L : Ledger) → Lent L → (calls : List Call) → AddsUp (after (started L) calls) (said (started L) calls)

-- ---- Sound stays

abbrev pub SoundAlways : Type 0
SoundAlways = (L : Ledger) → Lent L → (calls : List Call) → sound (after (started L) calls) ≡ true

abbrev pub SoundSettles : Type 0
SoundSettles = (L : Ledger) → Lent L → sound L ≡ true → (b : List ℕ) → sound (submit L b).left ≡ true

-- answer 2 never comes on a ledger that was only changed through these calls
abbrev pub NeverDamaged : Type 0
NeverDamaged = (L : Ledger) → Lent L → (calls : List Call) (b : List ℕ) → (submit (after (started L) calls) b).number ≢ 2

-- lengths never change, and rows written stay within their tables
pub record SameLengths (K L : Ledger) : Type 0 where
  pub edition : K.edition ≡ L.edition
  pub header : length K.header ≡ length L.header
  pub wallets : length K.wallets ≡ length L.wallets
  pub escrows : length K.escrows ≡ length L.escrows
  pub receipts : length K.receipts ≡ length L.receipts
  pub journal : length K.journal ≡ length L.journal

abbrev pub LengthsStay : Type 0
LengthsStay = (L : Ledger) → HEADER_LEN ≤ L.edition.header → (calls : List Call) → SameLengths (after L calls) L

pub record Within (L : Ledger) : Type 0 where
  pub wallets : wallet_count L ≤ rows_in WALLET_LEN L.wallets
  pub escrows : escrow_count L ≤ rows_in L.edition.escrow L.escrows
  pub receipts : receipt_count L ≤ rows_in RECEIPT_LEN L.receipts
  pub journal : entry_count L ≤ rows_in JOURNAL_LEN L.journal

abbrev pub RowsStayWithin : Type 0
RowsStayWithin = (L : Ledger) → Lent L → (calls : List Call) → Within (after (started L) calls)
