-- Section "Checked cases": what a case is, and when it holds. A case is a list of submissions on a fresh ledger: each is written as a record,
-- submitted, and held against the answer and the word that the paper gives, what wallets then have, and the release codes that receipts then have.
-- Or it is a recording, whose replay is held against a verdict and what wallets then have. Or it is recordings, added one after the other to a
-- report, which is held against cells, figures and what is named. Or it is an old recording, which is held against what it is converted to, and whose
-- replay by the old form and, converted, by today's against one verdict.
use Rattle.std.specs.Prelude.{List, [], ◌∷◌, ◌++◌, Bool, true, false, cond, ◌&&◌, ℕ, ◌+◌, ◌-◌, get_or, set, replicate, eqb}
use Rattle.rules.specs.Limits.{BALANCE, LOCKED, RELEASE_CODE}
use Rattle.rules.specs.Ledger.{Ledger, ledger, fresh, wallet_of, receipt}
use Rattle.rules.specs.Record.{encode}
use Rattle.rules.specs.Submit.{submit_by, submit}
use Rattle.rules.specs.Recording.{Entry, as_entry, recording_of}
use Rattle.rules.specs.Replay.{replay, verdict_of}
use Rattle.rules.specs.Report.{Grid, cell, Report, report}
use Rattle.rules.specs.Convert.{converted}
use Rattle.rules.specs.declared.Form.TheVariants.{Old}
use Rattle.rules.specs.declared.Answer.{Answer}
use Rattle.rules.specs.declared.Submission.{Submission}
use Rattle.rules.specs.declared.Verdict.{Verdict}

-- ---- What a case is

-- a wallet has this balance and this locked
pub record Has : Type 0 where
  pub id : ℕ
  pub balance : ℕ
  pub locked : ℕ

-- a receipt has this release code
pub record Code : Type 0 where
  pub number : ℕ
  pub code : ℕ

pub record Step : Type 0 where
  pub submission : Submission
  pub number : ℕ
  pub word : ℕ
  pub has : List Has
  pub codes : List Code

-- a recording, its entries and the bytes behind them; what its replay says, and what wallets then have
pub record Recorded : Type 0 where
  pub on : Ledger
  pub entries : List Entry
  pub rest : List ℕ
  pub verdict : Verdict
  pub has : List Has

-- a recording added to a report: its entries and the bytes behind them; the answer, and how many entries were read; what wallets then have; and the
-- very tables left, where that is said
pub record Added : Type 0 where
  pub entries : List Entry
  pub rest : List ℕ
  pub number : ℕ
  pub read : ℕ
  pub has : List Has
  pub left : List Ledger

-- a cell of the grid is this much more than before
pub record Counted : Type 0 where
  pub row : ℕ
  pub column : ℕ
  pub count : ℕ

-- recordings added one after the other to a report brought along, the first on these tables and each other on those that the one before left; and what
-- the report then is: these cells more, all others as before, the five figures, and the three words of what is named
pub record Reporting : Type 0 where
  pub before : Report
  pub on : Ledger
  pub adds : List Added
  pub cells : List Counted
  pub figures : List ℕ
  pub named : List ℕ

-- an old recording, its entries and the bytes behind them; what the entries are converted to, the bytes behind them staying; and what its replay says
pub record Converting : Type 0 where
  pub entries : List Entry
  pub rest : List ℕ
  pub becomes : List Entry
  pub verdict : Verdict

pub data Trial : Type 0 where
  settles : List Step → Trial
  replays : Recorded → Trial
  reports : Reporting → Trial
  converts : Converting → Trial

-- the paper's P1 to P12 by their numbers; case k of request n/13 is n * 100 + k
pub record Case : Type 0 where
  pub label : ℕ
  pub trial : Trial

-- ---- Whether it holds

-- tables of 4 wallets, 4 escrows, 4 receipts and 8 journal rows, every word of them at its largest
abbrev pub ODD_WORD : ℕ
ODD_WORD = 18_446_744_073_709_551_615

abbrev pub tables : Ledger
tables =
    ledger (replicate 8 ODD_WORD) (replicate 24 ODD_WORD) (replicate 32 ODD_WORD) (replicate 56 ODD_WORD) (replicate 64 ODD_WORD)

abbrev pub has_all : Ledger → List Has → Bool
has_all L [] = true
has_all L (h ∷ hs) = eqb (wallet_of L h.id BALANCE) h.balance && (eqb (wallet_of L h.id LOCKED) h.locked && has_all L hs)

abbrev pub codes_all : Ledger → List Code → Bool
codes_all L [] = true
codes_all L (c ∷ cs) = eqb (receipt L (c.number - 1) RELEASE_CODE) c.code && codes_all L cs

abbrev pub goes : List Step → Ledger → Bool
goes [] L = true
goes (x ∷ xs) L =
    let a = submit L (encode x.submission) in
    eqb a.number x.number && (eqb a.word x.word && (has_all a.left x.has && (codes_all a.left x.codes && goes xs a.left)))

abbrev same_answer : Answer → Answer → Bool
same_answer x y = eqb x.number y.number && eqb x.word y.word

abbrev pub same_verdict : Verdict → Verdict → Bool
same_verdict v w =
    eqb v.number w.number
    && (eqb v.finding w.finding
    && (eqb v.replayed w.replayed && (same_answer v.recorded w.recorded && same_answer v.answered w.answered)))

abbrev same_words : List ℕ → List ℕ → Bool
same_words [] [] = true
same_words [] (y ∷ ys) = false
same_words (x ∷ xs) [] = false
same_words (x ∷ xs) (y ∷ ys) = eqb x y && same_words xs ys

abbrev same_grid : Grid → Grid → Bool
same_grid [] [] = true
same_grid [] (y ∷ ys) = false
same_grid (x ∷ xs) [] = false
same_grid (x ∷ xs) (y ∷ ys) = same_words x y && same_grid xs ys

abbrev same_tables : Ledger → Ledger → Bool
same_tables L M =
    same_words L.header M.header
    && (same_words L.wallets M.wallets
    && (same_words L.escrows M.escrows && (same_words L.receipts M.receipts && same_words L.journal M.journal)))

abbrev tables_all : Ledger → List Ledger → Bool
tables_all L [] = true
tables_all L (M ∷ Ms) = same_tables L M && tables_all L Ms

-- the grid with these cells more
abbrev pub with_cells : Grid → List Counted → Grid
with_cells grid [] = grid
with_cells grid (c ∷ cs) =
    with_cells (set grid c.row (set (get_or grid c.row []) c.column (cell grid c.row c.column + c.count))) cs

-- from this report and these tables on, and then the report is m's
abbrev pub adds_up : Report → Ledger → List Added → Reporting → Bool
adds_up R L [] m =
    same_grid R.grid (with_cells m.before.grid m.cells) && (same_words R.figures m.figures && same_words R.named m.named)
adds_up R L (a ∷ more) m =
    let x = report submit R L (recording_of a.entries ++ a.rest) in
    eqb x.number a.number
    && (eqb x.entries a.read && (has_all x.left a.has && (tables_all x.left a.left && adds_up x.report x.left more m)))

abbrev pub holds : Trial → Bool
holds (settles steps) = goes steps (fresh tables).left
holds (replays r) =
    let g = replay submit r.on (recording_of r.entries ++ r.rest) in
    same_verdict (verdict_of g.found) r.verdict && has_all g.left r.has
holds (reports m) = adds_up m.before m.on m.adds m
holds (converts c) =
    let old = recording_of c.entries ++ c.rest in
    let new = recording_of c.becomes ++ c.rest in
    same_words (converted old) new
    && (same_verdict (verdict_of (replay (submit_by Old) tables old).found) c.verdict && same_verdict (verdict_of (replay submit tables new).found) c.verdict)

-- the labels of the cases that do not hold
abbrev pub failing : List Case → List ℕ
failing [] = []
failing (c ∷ cs) = cond (holds c.trial) (failing cs) (c.label ∷ failing cs)

-- ---- How its parts are written

-- op flags now signer nonce issued expires target amount until link
abbrev pub sub : ℕ → ℕ → ℕ → ℕ → ℕ → ℕ → ℕ → ℕ → ℕ → ℕ → ℕ → Submission
sub op flags now signer nonce issued expires target amount until link = record {
  op = op;
  flags = flags;
  now = now;
  signer = signer;
  nonce = nonce;
  issued = issued;
  expires = expires;
  target = target;
  amount = amount;
  until = until;
  link = link;
  hash0 = 0;
  hash1 = 0;
  hash2 = 0;
  hash3 = 0;
}

abbrev pub case : ℕ → List Step → Case
case label steps = record { label = label; trial = settles steps }

abbrev pub step : Submission → ℕ → ℕ → Step
step s number word = record { submission = s; number = number; word = word; has = []; codes = [] }

abbrev pub leaves : Submission → ℕ → ℕ → List Has → Step
leaves s number word has = record { submission = s; number = number; word = word; has = has; codes = [] }

abbrev pub has : ℕ → ℕ → ℕ → Has
has id balance locked = record { id = id; balance = balance; locked = locked }

-- a step as it is recorded, and with another answer in its place
abbrev pub entry : Step → Entry
entry x = as_entry (encode x.submission) x.number x.word

abbrev pub entry_as : Step → ℕ → ℕ → Entry
entry_as x number word = as_entry (encode x.submission) number word

-- a recording replayed on the tables
abbrev pub recorded : ℕ → List Entry → List ℕ → Verdict → List Has → Case
recorded label entries rest v has = record {
  label = label;
  trial = replays (record { on = tables; entries = entries; rest = rest; verdict = v; has = has });
}

-- a recording of whole entries, added to a report: answered 0, and so many were read
abbrev pub added : List Entry → ℕ → List Has → Added
added entries read has = record { entries = entries; rest = []; number = 0; read = read; has = has; left = [] }

-- .. and it leaves these tables
abbrev pub added_leaving : List Entry → ℕ → ℕ → Ledger → Added
added_leaving entries number read left = record { entries = entries; rest = []; number = number; read = read; has = []; left = left ∷ [] }

abbrev pub counted : ℕ → ℕ → ℕ → Counted
counted row column count = record { row = row; column = column; count = count }

-- a report brought along, and recordings added to it on the tables
abbrev pub reported_from : ℕ → Report → List Added → List Counted → List ℕ → List ℕ → Case
reported_from label before adds cells figures named = record {
  label = label;
  trial = reports (record { before = before; on = tables; adds = adds; cells = cells; figures = figures; named = named });
}

-- an old recording, converted
abbrev pub converts_to : ℕ → List Entry → List ℕ → List Entry → Verdict → Case
converts_to label entries rest becomes v = record { label = label; trial = converts (record { entries = entries; rest = rest; becomes = becomes; verdict = v }) }
