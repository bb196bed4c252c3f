-- Section "The submission record": 108 bytes, the fields that they say, which operation uses what, reading and writing. With document 02, request 7,
-- a record has two forms, today's and the old one, which old recordings have. Where they differ the form is a parameter; a name without one is today's.
use Rattle.std.specs.Prelude.{List, [], ◌∷◌, ◌++◌, Bool, true, false, not, cond, ◌&&◌, ◌||◌, ℕ, zero, suc, ◌+◌, ◌*◌, ◌/◌, ◌%◌, ◌^◌, get_or, length, eqb, ltb, leb}
use Rattle.rules.specs.Limits.{RECORD_BYTES, MARK_0, MARK_1, LAST_TIME_MS, OLD_DISPUTE, SWEEP, LAST_OPERATION, ACCEPTS, REASON_GIVEN}
use Rattle.rules.specs.Table.{all}
use Rattle.rules.specs.declared.Form.{Form}
use Rattle.rules.specs.declared.Form.TheVariants.{Old, Today}
use Rattle.rules.specs.declared.Submission.{Submission}
use Rattle.rules.specs.declared.Read.{Read}

-- bit k of a byte
abbrev pub bit : ℕ → ℕ → ℕ
bit k n = n / 2 ^ k % 2

-- what an operation uses besides now: bits of the flags; signer, nonce, issued and expires; target; amount; until; link; hash
pub record Uses : Type 0 where
  pub bits : ℕ
  pub envelope : Bool
  pub target : Bool
  pub amount : Bool
  pub until : Bool
  pub link : Bool
  pub hash : Bool

abbrev pub uses : ℕ → Bool → Bool → Bool → Bool → Bool → Bool → Uses
uses b e t a u l h = record { bits = b; envelope = e; target = t; amount = a; until = u; link = l; hash = h }

-- nothing is used
abbrev pub no_uses : Uses
no_uses = uses 0 false false false false false false

-- "Operations 7 and 8 become one: operation 7 with bit 2 for accept, clear for dispute, and bit 3 as before." Until then an accept was operation 7, and a
-- dispute operation 8
abbrev pub uses_of_7 : Form → Uses
uses_of_7 Old = uses 0b0001 true true false false false false
uses_of_7 Today = uses 0b1101 true true false false false false

abbrev pub uses_of_8 : Form → Uses
uses_of_8 Old = uses 0b1001 true true false false false false
uses_of_8 Today = no_uses

-- "Operation 8 is malformed from now on"
abbrev pub in_form : Form → ℕ → Bool
in_form Old op = true
in_form Today op = not (eqb op OLD_DISPUTE)

-- the paper's table, from operation 1 on
abbrev pub uses_table : Form → List Uses
uses_table form =
    --   bits   envelope target amount until link hash
    uses 0b0011 true true true false false false
    ∷ uses 0b0001 true true true false false false
    ∷ uses 0b0001 true true true true false false
    ∷ uses 0b0011 true true false false false false
    ∷ uses 0b0011 true true false false false false
    ∷ uses 0b0101 true true false true true true
    ∷ uses_of_7 form
    ∷ uses_of_8 form
    ∷ uses 0b0000 false false true false false false
    ∷ uses 0b0111 true true false false false false
    ∷ uses 0b0011 true true true false true false
    ∷ uses 0b0011 true true false false false false
    ∷ []

unfoldable pub uses_of : Form → ℕ → Uses
uses_of form op = get_or (no_uses ∷ uses_table form) op no_uses

-- an unused part is zero
abbrev pub used_or_zero : Bool → ℕ → Bool
used_or_zero u x = u || eqb x 0

-- a flag byte has no bit that is not used
abbrev pub bits_used : ℕ → ℕ → Bool
bits_used flags used =
    all (leb (bit 0 flags) (bit 0 used) ∷ leb (bit 1 flags) (bit 1 used) ∷ leb (bit 2 flags) (bit 2 used) ∷ leb (bit 3 flags) (bit 3 used)
    ∷ ltb flags 16 ∷ [])

-- "Accept requires bit 3 to be clear": no record has bits 2 and 3 together, as no other operation uses both
abbrev pub bits_apart : ℕ → Bool
bits_apart flags = eqb (bit ACCEPTS flags) 0 || eqb (bit REASON_GIVEN flags) 0

abbrev pub form_tests : Form → Submission → List Bool
form_tests form s =
    let u = uses_of form s.op in
    leb 1 s.op ∷ leb s.op LAST_OPERATION ∷ in_form form s.op
    ∷ bits_used s.flags u.bits ∷ bits_apart s.flags
    ∷ used_or_zero u.envelope s.signer ∷ used_or_zero u.envelope s.nonce ∷ used_or_zero u.envelope s.issued
    ∷ used_or_zero u.envelope s.expires
    ∷ used_or_zero u.target s.target ∷ used_or_zero u.amount s.amount ∷ used_or_zero u.until s.until
    ∷ used_or_zero u.link s.link
    ∷ used_or_zero u.hash s.hash0 ∷ used_or_zero u.hash s.hash1 ∷ used_or_zero u.hash s.hash2 ∷ used_or_zero u.hash s.hash3
    ∷ (eqb s.op SWEEP || not (eqb s.signer 0))
    ∷ leb s.now LAST_TIME_MS ∷ leb s.issued LAST_TIME_MS ∷ leb s.expires LAST_TIME_MS ∷ leb s.until LAST_TIME_MS
    ∷ leb s.issued s.expires ∷ []

-- the fields are not those of a malformed record
unfoldable pub well_formed_by : Form → Submission → Bool
well_formed_by form s = all (form_tests form s)

abbrev pub well_formed : Submission → Bool
well_formed = well_formed_by Today

-- little-endian numbers of n bytes: at a place of a list, and as bytes
abbrev pub le_at : ℕ → List ℕ → ℕ → ℕ
le_at zero bs p = 0
le_at (suc n) bs p = get_or bs p 0 + 256 * le_at n bs (p + 1)

abbrev pub le_bytes : ℕ → ℕ → List ℕ
le_bytes zero x = []
le_bytes (suc n) x = (x % 256) ∷ le_bytes n (x / 256)

-- the fields that the bytes say
unfoldable pub decode : List ℕ → Submission
decode b = record {
  op = get_or b 2 0;
  flags = get_or b 3 0;
  now = le_at 8 b 4;
  signer = le_at 8 b 12;
  nonce = le_at 8 b 20;
  issued = le_at 8 b 28;
  expires = le_at 8 b 36;
  target = le_at 8 b 44;
  amount = le_at 8 b 52;
  until = le_at 8 b 60;
  link = le_at 8 b 68;
  hash0 = le_at 8 b 76;
  hash1 = le_at 8 b 84;
  hash2 = le_at 8 b 92;
  hash3 = le_at 8 b 100;
}

-- the words of a submission in the record's order, and its bytes
abbrev pub words_of : Submission → List ℕ
words_of s =
    s.now ∷ s.signer ∷ s.nonce ∷ s.issued ∷ s.expires ∷ s.target ∷ s.amount ∷ s.until ∷ s.link
    ∷ s.hash0 ∷ s.hash1 ∷ s.hash2 ∷ s.hash3 ∷ []

abbrev pub word_bytes : List ℕ → List ℕ
word_bytes [] = []
word_bytes (w ∷ ws) = le_bytes 8 w ++ word_bytes ws

unfoldable pub encode : Submission → List ℕ
encode s = MARK_0 ∷ MARK_1 ∷ s.op ∷ s.flags ∷ word_bytes (words_of s)

abbrev pub nothing : Submission
nothing = record {
  op = 0;
  flags = 0;
  now = 0;
  signer = 0;
  nonce = 0;
  issued = 0;
  expires = 0;
  target = 0;
  amount = 0;
  until = 0;
  link = 0;
  hash0 = 0;
  hash1 = 0;
  hash2 = 0;
  hash3 = 0;
}

-- 108 bytes, the mark, and well-formed fields
abbrev pub accept_tests : Form → List ℕ → List Bool
accept_tests form b = eqb (length b) RECORD_BYTES ∷ eqb (get_or b 0 0) MARK_0 ∷ eqb (get_or b 1 0) MARK_1 ∷ well_formed_by form (decode b) ∷ []

unfoldable pub accepted_by : Form → List ℕ → Bool
accepted_by form b = all (accept_tests form b)

abbrev pub accepted : List ℕ → Bool
accepted = accepted_by Today

-- THE READER: 0 and the fields, or 3 and every field 0
unfoldable pub read_by : Form → List ℕ → Read
read_by form b = cond (accepted_by form b) (record { number = 0; submission = decode b }) (record { number = 3; submission = nothing })

abbrev pub read_of : List ℕ → Read
read_of = read_by Today

-- THE WRITER: 0 and the record's bytes, or 3 and the output as it was
pub record Written : Type 0 where
  pub number : ℕ
  pub out : List ℕ

unfoldable pub write_of : Submission → List ℕ → Written
write_of s out =
    cond (eqb (length out) RECORD_BYTES && well_formed s) (record { number = 0; out = encode s }) (record { number = 3; out = out })
