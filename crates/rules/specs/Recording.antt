-- Document 02, request 1: a recording. "Each entry is a submission record of 108 bytes, then one byte of answer and eight bytes of answer word,
-- little-endian." What is left behind the whole entries, if anything, is an entry cut short.
use Rattle.std.specs.Prelude.{List, [], ◌∷◌, ◌++◌, Bool, not, ℕ, zero, suc, ◌+◌, ◌*◌, ◌/◌, ◌%◌, get_or, length, take, drop, eqb}
use Rattle.rules.specs.Limits.{RECORD_BYTES, ENTRY_BYTES, ANSWER_AT, WORD_AT}
use Rattle.rules.specs.Record.{le_at, le_bytes}

-- an entry: the record's bytes, and the number and the word of its answer
pub record Entry : Type 0 where
  pub bytes : List ℕ
  pub number : ℕ
  pub word : ℕ

abbrev pub as_entry : List ℕ → ℕ → ℕ → Entry
as_entry bytes number word = record { bytes = bytes; number = number; word = word }

-- entry k of a recording, counted from 0
unfoldable pub entry_at : List ℕ → ℕ → Entry
entry_at r k =
    let at = k * ENTRY_BYTES in
    as_entry (take RECORD_BYTES (drop at r)) (get_or r (at + ANSWER_AT) 0) (le_at 8 r (at + WORD_AT))

-- n entries, from entry k on
unfoldable pub entries_from : List ℕ → ℕ → ℕ → List Entry
entries_from r zero k = []
entries_from r (suc n) k = entry_at r k ∷ entries_from r n (k + 1)

-- the whole entries of a recording
abbrev pub whole_entries : List ℕ → ℕ
whole_entries r = length r / ENTRY_BYTES

abbrev pub entries_of : List ℕ → List Entry
entries_of r = entries_from r (whole_entries r) 0

-- the records of entries
abbrev pub records_of : List Entry → List (List ℕ)
records_of [] = []
records_of (e ∷ es) = e.bytes ∷ records_of es

-- 1 to 116 bytes are left behind them
abbrev pub cut_short : List ℕ → Bool
cut_short r = not (eqb (length r % ENTRY_BYTES) 0)

-- the bytes of an entry, and of a recording
abbrev pub entry_bytes : Entry → List ℕ
entry_bytes e = e.bytes ++ (e.number ∷ le_bytes 8 e.word)

abbrev pub recording_of : List Entry → List ℕ
recording_of [] = []
recording_of (e ∷ es) = entry_bytes e ++ recording_of es
