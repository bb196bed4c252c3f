-- Document 02, request 1: "a replay on a fresh ledger that compares each answer and word, stops at the first entry that disagrees and reports it
-- with both answers, or that all agree and how many there were". A cut entry "is reported as such and is not replayed".
use Rattle.std.specs.Prelude.{List, [], ◌∷◌, Bool, cond, ◌&&◌, ℕ, ◌+◌, eqb}
use Rattle.rules.specs.Limits.{NOT_REPLAYED, ALL_AGREE, CUT_SHORT, DISAGREES}
use Rattle.rules.specs.Ledger.{Ledger, Outcome, lengths_right, fresh}
use Rattle.rules.specs.Recording.{Entry, as_entry, entries_of, cut_short}
use Rattle.rules.specs.declared.Answer.{Answer}
use Rattle.rules.specs.declared.Found.{Found}
use Rattle.rules.specs.declared.Found.TheVariants.{WrongLength, AllAgree, CutShort, Disagrees}
use Rattle.rules.specs.declared.Verdict.{Verdict}

-- ---- Entries, one after the other

-- a rule of settling: what the bytes of a record are answered, and the ledger left. That of today is `submit`.
abbrev pub Rule : Type 0
Rule = Ledger → List ℕ → Outcome

-- after an entry: on to the next with what is kept so far, or no further; or no further than before it, and then it is not replayed
pub data Next (A B : Type 0) : Type 0 where
  on : A → Next A B
  stop : B → Next A B
  stop_before : B → Next A B

-- what is found, and the tables "as after the last entry replayed"
pub record Gone (B : Type 0) : Type 0 where
  pub found : B
  pub left : Ledger

abbrev pub gone : {B : Type 0} → B → Ledger → Gone B
gone found left = record { found = found; left = left }

-- an entry by what is said of it, with the tables before and after it: the rest from there on, or the end
abbrev pub further : {A B : Type 0} → (A → Gone B) → Ledger → Ledger → Next A B → Gone B
further rest L M (on a) = rest a
further rest L M (stop b) = gone b M
further rest L M (stop_before b) = gone b L

-- THE FOLD: from this ledger, through these entries, with what is said of each. `say` is told what is kept so far, the ledger before the entry,
-- the entry, and what the rule gives for its record; `end` says what is found where no entry is left.
unfoldable pub through : {A B : Type 0} → Rule → (A → Ledger → Entry → Outcome → Next A B) → (A → B) → A → Ledger → List Entry → Gone B
through rule say end kept L [] = gone (end kept) L
through rule say end kept L (e ∷ es) =
    let o = rule L e.bytes in
    further (λ a. through rule say end a o.left es) L o.left (say kept L e o)

-- ---- The replay

abbrev pub answer : ℕ → ℕ → Answer
answer number word = record { number = number; word = word }

-- the recorded answer is the rule's: its number and its word
abbrev pub agrees : Entry → Outcome → Bool
agrees e o = eqb e.number o.number && eqb e.word o.word

-- after n entries that agree, the next one
unfoldable pub compared : ℕ → Ledger → Entry → Outcome → Next ℕ Found
compared n L e o = cond (agrees e o) (on (n + 1)) (stop (Disagrees (n + 1) (answer e.number e.word) (answer o.number o.word)))

-- n entries agree, and there is no other whole one
unfoldable pub ended : Bool → ℕ → Found
ended cut n = cond cut (CutShort n) (AllAgree n)

-- on tables as they are
unfoldable pub replay_on : Rule → Ledger → List ℕ → Gone Found
replay_on rule L r = through rule compared (ended (cut_short r)) 0 L (entries_of r)

-- THE REPLAY: on the tables started afresh. "Tables of a wrong length are answer 1."
unfoldable pub replay : Rule → Ledger → List ℕ → Gone Found
replay rule L r = cond (lengths_right L) (replay_on rule (fresh L).left r) (gone WrongLength L)

-- ---- What each case says in numbers

abbrev pub verdict : ℕ → ℕ → ℕ → Answer → Answer → Verdict
verdict number finding replayed recorded answered = record {
  number = number;
  finding = finding;
  replayed = replayed;
  recorded = recorded;
  answered = answered;
}

abbrev pub verdict_of : Found → Verdict
verdict_of WrongLength = verdict 1 NOT_REPLAYED 0 (answer 0 0) (answer 0 0)
verdict_of (AllAgree n) = verdict 0 ALL_AGREE n (answer 0 0) (answer 0 0)
verdict_of (CutShort n) = verdict 0 CUT_SHORT n (answer 0 0) (answer 0 0)
verdict_of (Disagrees k recorded answered) = verdict 0 DISAGREES k recorded answered

abbrev pub told : Gone Found → Gone Verdict
told g = gone (verdict_of g.found) g.left

-- ---- What a core records

-- the entries that records make, submitted one after the other from a ledger on, and the ledger that they leave
abbrev pub recorded_from : Rule → Ledger → List (List ℕ) → List Entry
recorded_from rule L [] = []
recorded_from rule L (b ∷ bs) = as_entry b (rule L b).number (rule L b).word ∷ recorded_from rule (rule L b).left bs

abbrev pub ledger_after : Rule → Ledger → List (List ℕ) → Ledger
ledger_after rule L [] = L
ledger_after rule L (b ∷ bs) = ledger_after rule (rule L b).left bs
