-- Document 02, request 7: "Old recordings are turned into the new form in place by a converter." The old form is today's with 7 and 8 as they were.
use Rattle.std.specs.Prelude.{List, cond, ℕ, ◌+◌, ◌*◌, ◌^◌, get_or, set, take, drop, eqb}
use Rattle.rules.specs.Limits.{RECORD_BYTES, OPERATION_AT, FLAGS_AT, ENTRY_BYTES, REPLY, OLD_ACCEPT, OLD_DISPUTE, SIGNATURE_HELD, ACCEPTS}
use Rattle.rules.specs.Table.{loop}
use Rattle.rules.specs.Record.{bit, read_by}
use Rattle.rules.specs.Recording.{Entry, as_entry, whole_entries}
use Rattle.rules.specs.declared.Form.TheVariants.{Old}

-- the operation of a record as the old form reads it: 0 if it is malformed by that form
unfoldable pub old_operation : List ℕ → ℕ
old_operation b = (read_by Old b).submission.op

-- a dispute is a reply now, and so is an accept, which keeps its number. "A record malformed by the old form gets operation 0"
abbrev pub new_operation : ℕ → ℕ
new_operation old = cond (eqb old OLD_DISPUTE) REPLY old

-- an accept has used bit 0 alone, and gets bit 2; the flags of any other record stay, so a dispute has bit 2 clear and bit 3 as it was
abbrev pub new_flags : ℕ → ℕ → ℕ
new_flags old flags = cond (eqb old OLD_ACCEPT) (bit SIGNATURE_HELD flags + 2 ^ ACCEPTS) flags

-- the two bytes of a record that change
abbrev pub operation_byte : List ℕ → ℕ
operation_byte b = new_operation (old_operation b)

abbrev pub flags_byte : List ℕ → ℕ
flags_byte b = new_flags (old_operation b) (get_or b FLAGS_AT 0)

-- a record in today's form, and an entry: its answer stays
unfoldable pub convert_record : List ℕ → List ℕ
convert_record b = set (set b OPERATION_AT (operation_byte b)) FLAGS_AT (flags_byte b)

abbrev pub convert_entry : Entry → Entry
convert_entry e = as_entry (convert_record e.bytes) e.number e.word

-- in place: those of the record that starts at a place
unfoldable pub converted_at : ℕ → List ℕ → List ℕ
converted_at at r =
    let b = take RECORD_BYTES (drop at r) in
    set (set r (at + OPERATION_AT) (operation_byte b)) (at + FLAGS_AT) (flags_byte b)

-- THE CONVERTER: every whole entry in turn. "A cut last entry stays."
unfoldable pub converted : List ℕ → List ℕ
converted r = loop (whole_entries r) (λ k. converted_at (k * ENTRY_BYTES)) r
