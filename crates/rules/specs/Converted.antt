-- THE PROMISES of document 02, request 7: what a converted recording keeps, and that it "must replay with the same answers and words as the old
-- recording had under the old form, all other rules being today's". Their proofs stand in the crate `convert`, under the same names in small letters.
use Rattle.std.specs.Prelude.{◌≡◌, ◌⊎◌, List, [], ◌∷◌, map, ℕ, ◌*◌, ◌%◌, get_or, length, drop}
use Rattle.rules.specs.Limits.{JOURNAL_LEN, ENTRY_BYTES, OPERATION, REPLY, OLD_DISPUTE}
use Rattle.rules.specs.Ledger.{Ledger, Outcome}
use Rattle.rules.specs.Submit.{submit_by, submit}
use Rattle.rules.specs.Recording.{whole_entries, entries_of, records_of}
use Rattle.rules.specs.Replay.{Rule, answer, replay, ledger_after}
use Rattle.rules.specs.Convert.{convert_record, convert_entry, converted}
use Rattle.rules.specs.Promises.{started}
use Rattle.rules.specs.declared.Answer.{Answer}
use Rattle.rules.specs.declared.Form.TheVariants.{Old}

-- CONVERTING KEEPS the length and the number of entries; each entry is the old one, its answer too, but for two bytes of its record; and what is left
-- behind the whole entries stays
pub record Keeps (r : List ℕ) : Type 0 where
  pub length : length (converted r) ≡ length r
  pub number : whole_entries (converted r) ≡ whole_entries r
  pub entries : entries_of (converted r) ≡ map convert_entry (entries_of r)
  pub cut : drop (whole_entries r * ENTRY_BYTES) (converted r) ≡ drop (whole_entries r * ENTRY_BYTES) r

abbrev pub ConvertingKeeps : Type 0
ConvertingKeeps = (r : List ℕ) → Keeps r

-- the rules under the old form: "all other rules being today's"
abbrev pub old_rule : Rule
old_rule = submit_by Old

-- two ledgers that differ in the journal's operation word of replies only: the old form says 8 of a dispute, today's 7
pub record DifferInReplies (K L : Ledger) : Type 0 where
  pub edition : K.edition ≡ L.edition
  pub header : K.header ≡ L.header
  pub wallets : K.wallets ≡ L.wallets
  pub escrows : K.escrows ≡ L.escrows
  pub receipts : K.receipts ≡ L.receipts
  pub lengths : length K.journal ≡ length L.journal
  pub words : (p : ℕ) → (get_or K.journal p 0 ≡ get_or L.journal p 0)
      ⊎ ((p % JOURNAL_LEN ≡ OPERATION) × (get_or K.journal p 0 ≡ OLD_DISPUTE) × (get_or L.journal p 0 ≡ REPLY))

-- one submission on two such ledgers, to the old form and, converted, to today's: the same answer and word, and two such ledgers again
pub record AnswersAlike (o p : Outcome) : Type 0 where
  pub number : o.number ≡ p.number
  pub word : o.word ≡ p.word
  pub left : DifferInReplies o.left p.left

abbrev pub ConvertedSettles : Type 0
ConvertedSettles = (K L : Ledger) → DifferInReplies K L → (b : List ℕ) → AnswersAlike (old_rule K b) (submit L (convert_record b))

-- the answers to records that are submitted one after the other
abbrev pub answers_from : Rule → Ledger → List (List ℕ) → List Answer
answers_from rule L [] = []
answers_from rule L (b ∷ bs) = answer (rule L b).number (rule L b).word ∷ answers_from rule (rule L b).left bs

-- on tables started afresh the converted records get by today's rules the answers and words that the old ones get by the old form. So a replay finds
-- the same: a recording that agreed under the old form agrees, converted, and one that did not disagrees at the same entry with the same two answers
pub record ReplaysAlike (L : Ledger) (r : List ℕ) : Type 0 where
  pub answers : answers_from submit (started L) (records_of (entries_of (converted r))) ≡ answers_from old_rule (started L) (records_of (entries_of r))
  pub after : DifferInReplies (ledger_after old_rule (started L) (records_of (entries_of r))) (ledger_after submit (started L) (records_of (entries_of (converted r))))
  pub found : (replay submit L (converted r)).found ≡ (replay old_rule L r).found
  pub left : DifferInReplies (replay old_rule L r).left (replay submit L (converted r)).left

-- whatever bytes the recording is, and whatever tables are lent
abbrev pub ConvertedReplays : Type 0
ConvertedReplays = (L : Ledger) (r : List ℕ) → ReplaysAlike L r
