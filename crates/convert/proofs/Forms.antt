-- What the old form reads of a record and today's reads of the converted one: the same answer, and two submissions of the same meaning. Both read
-- nothing, or the converted record is the old one but for its two bytes; then it goes by whether the operation was an accept, a dispute or
-- another. Two such submissions are refused alike and do the same on every ledger.
use mathlib.Core.Path.{◌≡◌, refl, sym, ap, ◌∙◌, subst}
use mathlib.Core.Logic.{◌≢◌}
use mathlib.Core.List.{List, ◌∷◌}
use mathlib.Core.Bool.{Bool, true, false, cond}
use Prim.Native.Nat.{ℕ, zero, suc, ◌+◌, ◌-◌, ◌^◌, ◌≤◌, ◌<◌}
use native.Mathlib.Decide.{ℕ_discrete, dec_lt}
use native.Mathlib.Omega.{arith}
use lib.ListN.{get_or, set, length, take, drop, length-set}
use lib.Seq.{get_or-take, get_or-drop, get_or-set_same, get_or-set_other}
use lib.Dec.{leb, lit<}
use borrow.Author.Tests.{eqb-true, ne_eqb, leb-true, le-leb}
use Rattle.rules.specs.Limits.{RECORD_BYTES, OPERATION_AT, FLAGS_AT, REPLY, OLD_ACCEPT, OLD_DISPUTE, SIGNATURE_HELD, ADMIN, ACCEPTS}
use Rattle.rules.specs.Ledger.{Ledger}
use Rattle.rules.specs.Record.{bit, no_uses, uses_table, uses_of, bits_used, bits_apart, form_tests, well_formed_by, le_at, decode, nothing, accept_tests, accepted_by, read_by}
use Rattle.rules.specs.Refusals.{envelope_refusals, operation_refusals_by}
use Rattle.rules.specs.Settle.{Done, accept, dispute, reply, idle, operations_by, operate_by}
use Rattle.rules.specs.Convert.{old_operation, new_operation, new_flags, operation_byte, flags_byte, convert_record}
use Rattle.rules.specs.declared.Form.{Form}
use Rattle.rules.specs.declared.Form.TheVariants.{Old, Today}
use Rattle.rules.specs.declared.Read.{Read}
use Rattle.rules.specs.declared.Submission.{Submission}
use Rattle.rules.proofs.Bools.{and_fst, and_snd, all_at, cond_case}
use Rattle.rules.proofs.Formed.{accepted_says, formed_says}
use Rattle.convert.proofs.Entries.{le_set}

-- ---- two submissions

-- the same fields, of another operation with other flags
abbrev pub reformed : ℕ → ℕ → Submission → Submission
reformed op flags s = record {
  op = op;
  flags = flags;
  now = s.now;
  signer = s.signer;
  nonce = s.nonce;
  issued = s.issued;
  expires = s.expires;
  target = s.target;
  amount = s.amount;
  until = s.until;
  link = s.link;
  hash0 = s.hash0;
  hash1 = s.hash1;
  hash2 = s.hash2;
  hash3 = s.hash3;
}

-- bits 0 and 2: those of an accept in today's form
abbrev accepting : ℕ → ℕ
accepting flags = bit SIGNATURE_HELD flags + 2 ^ ACCEPTS

accepts_so : (flags : ℕ) → bit ACCEPTS (accepting flags) ≡ 1
accepts_so flags = omega arith

held_so : (flags : ℕ) → bit SIGNATURE_HELD (accepting flags) ≡ bit SIGNATURE_HELD flags
held_so flags = omega arith

-- the old form's and today's
pub data Converts : Submission → Submission → Type 0 where
  stays : (s : Submission) → s.op ≢ OLD_ACCEPT → s.op ≢ OLD_DISPUTE → Converts s s
  accepts : (s : Submission) (flags : ℕ) → Converts (reformed OLD_ACCEPT flags s) (reformed REPLY (accepting flags) s)
  disputes : (s : Submission) (flags : ℕ) → bit ACCEPTS flags ≡ 0 → Converts (reformed OLD_DISPUTE flags s) (reformed REPLY flags s)

-- ---- they mean the same

-- of two lists that differ in two elements only, any other element
but_two : {A : Type 0} (fs gs : List A) (k : ℕ) (z : A) → take k fs ≡ take k gs → drop (k + 2) fs ≡ drop (k + 2) gs
    → (n : ℕ) → n ≢ k → n ≢ k + 1 → get_or fs n z ≡ get_or gs n z
but_two fs gs k z before behind n ne ne' = go (dec_lt n k)
  where
    go : Dec (n < k) → get_or fs n z ≡ get_or gs n z
    go (yes l) = sym (get_or-take k fs n z l) ∙ ap (λ hs. get_or hs n z) before ∙ get_or-take k gs n z l
    go (no l) =
        let e : n ≡ k + 2 + (n - (k + 2)) = omega (arith, l, ne, ne') in
        ap (λ (m : ℕ). get_or fs m z) e
        ∙ sym (get_or-drop (k + 2) fs (n - (k + 2)) z) ∙ ap (λ hs. get_or hs (n - (k + 2)) z) behind ∙ get_or-drop (k + 2) gs (n - (k + 2)) z
        ∙ ap (λ (m : ℕ). get_or gs m z) (sym e)

module _ (M : Ledger) where
  pub envelope_same : {s t : Submission} → Converts s t → envelope_refusals M s ≡ envelope_refusals M t
  unfolding envelope_refusals
  envelope_same (stays s ne ne') = refl
  envelope_same (accepts s flags) = rw (held_so flags)
  envelope_same (disputes s flags e) = refl

  pub operation_same : {s t : Submission} → Converts s t → operation_refusals_by Old M s ≡ operation_refusals_by Today M t
  unfolding operation_refusals_by
  operation_same (stays s ne ne') = rw (ne_eqb s.op OLD_ACCEPT ne, ne_eqb s.op OLD_DISPUTE ne')
  operation_same (accepts s flags) = rw (accepts_so flags)
  operation_same (disputes s flags e) = rw e

  pub operate_same : {s t : Submission} → Converts s t → operate_by Today t M ≡ operate_by Old s M
  unfolding operate_by reply accept dispute
  operate_same (stays s ne ne') =
      ap (λ (f : Submission → Ledger → Done). f s M)
      (but_two (operations_by Today) (operations_by Old) 6 idle refl refl (s.op - 1) (omega (arith, ne)) (omega (arith, ne')))
  operate_same (accepts s flags) = rw (accepts_so flags)
  operate_same (disputes s flags e) = rw e

-- ---- a submission that is well-formed in the old form

-- in today's
abbrev today : Submission → Submission
today s = reformed (new_operation s.op) (new_flags s.op s.flags) s

-- it is converted, and well-formed in today's
record FormedToday (s t : Submission) : Type 0 where
  converts : Converts s t
  formed : well_formed_by Today t ≡ true

-- an accept: bit 0 may be set and no other, and gets bit 2
today_bits : (x : ℕ) → x ≤ 1 → (bits_used (x + 2 ^ ACCEPTS) 0b1101 ≡ true) × (bits_apart (x + 2 ^ ACCEPTS) ≡ true)
today_bits zero h = (refl, refl)
today_bits (suc zero) h = (refl, refl)
today_bits (suc (suc x)) h = absurd (omega arith)

today_accept : (s : Submission) (flags : ℕ) → well_formed_by Old (reformed OLD_ACCEPT flags s) ≡ true
    → FormedToday (reformed OLD_ACCEPT flags s) (reformed REPLY (accepting flags) s)
unfolding well_formed_by uses_of
today_accept s flags h =
    let at = all_at (form_tests Old (reformed OLD_ACCEPT flags s)) h in
    let bits = today_bits (bit SIGNATURE_HELD flags) (omega arith) in
    record { converts = accepts s flags; formed = rw (bits.0, bits.1) (rw (at 3, at 4) at h) }

-- a dispute: bits 0 and 3 may be set, and no other
today_dispute : (s : Submission) (flags : ℕ) → well_formed_by Old (reformed OLD_DISPUTE flags s) ≡ true
    → FormedToday (reformed OLD_DISPUTE flags s) (reformed REPLY flags s)
unfolding well_formed_by uses_of
today_dispute s flags h =
    let bits : bits_used flags 0b1001 ≡ true = all_at (form_tests Old (reformed OLD_DISPUTE flags s)) h 3 in
    let no_2 : leb (bit ACCEPTS flags) 0 ≡ true =
    and_fst (leb (bit ACCEPTS flags) 0) _ (and_snd (leb (bit ADMIN flags) 0) _ (and_snd (leb (bit SIGNATURE_HELD flags) 1) _ bits)) in
    let zero_2 : bit ACCEPTS flags ≤ 0 = leb-true _ _ no_2 in
    record {
      converts = disputes s flags (omega arith);
      formed = rw (le-leb (bit ACCEPTS flags) 1 (omega arith)) (rw no_2 at h);
    }

-- any other: the two forms ask the same of it
uses_same : (op : ℕ) → op ≢ OLD_ACCEPT → op ≢ OLD_DISPUTE → uses_of Today op ≡ uses_of Old op
unfolding uses_of
uses_same op ne ne' = but_two (no_uses ∷ uses_table Today) (no_uses ∷ uses_table Old) 7 no_uses refl refl op ne ne'

today_other : (s : Submission) → s.op ≢ OLD_ACCEPT → s.op ≢ OLD_DISPUTE → well_formed_by Old s ≡ true → FormedToday s s
unfolding well_formed_by
today_other s ne ne' h = record { converts = stays s ne ne'; formed = rw (ne_eqb s.op OLD_DISPUTE ne', uses_same s.op ne ne') h }

-- whatever its operation
today_formed : (s : Submission) → well_formed_by Old s ≡ true → FormedToday s (today s)
today_formed s = go s.op s.flags (ℕ_discrete s.op OLD_ACCEPT) (ℕ_discrete s.op OLD_DISPUTE)
  where
    Goal : ℕ → ℕ → Type 0
    Goal op flags = well_formed_by Old (reformed op flags s) ≡ true → FormedToday (reformed op flags s) (today (reformed op flags s))

    go : (op flags : ℕ) → Dec (op ≡ OLD_ACCEPT) → Dec (op ≡ OLD_DISPUTE) → Goal op flags
    go op flags (yes e) d = subst (λ (o : ℕ). Goal o flags) (sym e) (today_accept s flags)
    go op flags (no ne) (yes e) = subst (λ (o : ℕ). Goal o flags) (sym e) (today_dispute s flags)
    go op flags (no ne) (no ne') =
        rw (ne_eqb op OLD_ACCEPT ne, ne_eqb op OLD_DISPUTE ne') (today_other (reformed op flags s) ne ne')

-- ---- the bytes

-- two bytes of a record set: its operation and its flags
decode_set : (b : List ℕ) (op flags : ℕ) → length b ≡ RECORD_BYTES → decode (set (set b OPERATION_AT op) FLAGS_AT flags) ≡ reformed op flags (decode b)
unfolding decode
decode_set b op flags l =
    let w : (p : ℕ) → FLAGS_AT < p → le_at 8 (set (set b OPERATION_AT op) FLAGS_AT flags) p ≡ le_at 8 b p =
    λ p h. le_set 8 (set b OPERATION_AT op) p FLAGS_AT flags h ∙ le_set 8 b p OPERATION_AT op (omega arith) in
    let o : get_or (set (set b OPERATION_AT op) FLAGS_AT flags) OPERATION_AT 0 ≡ op =
    get_or-set_other (set b OPERATION_AT op) FLAGS_AT OPERATION_AT flags 0 (omega arith) ∙ get_or-set_same b OPERATION_AT op 0 (omega arith) in
    let f : get_or (set (set b OPERATION_AT op) FLAGS_AT flags) FLAGS_AT 0 ≡ flags =
    get_or-set_same (set b OPERATION_AT op) FLAGS_AT flags 0 (omega (arith, length-set b OPERATION_AT op)) in
    rw (
      o,
      f,
      w 4 (lit< tt),
      w 12 (lit< tt),
      w 20 (lit< tt),
      w 28 (lit< tt),
      w 36 (lit< tt),
      w 44 (lit< tt),
      w 52 (lit< tt),
      w 60 (lit< tt),
      w 68 (lit< tt),
      w 76 (lit< tt),
      w 84 (lit< tt),
      w 92 (lit< tt),
      w 100 (lit< tt),
    )

-- what is read of the two: the same number, and submissions of the same meaning
pub record Reads (r r' : Read) : Type 0 where
  pub number : r.number ≡ r'.number
  pub converts : Converts r.submission r'.submission

-- what is read, if the record is accepted and if not
abbrev read : List ℕ → Read
read b = record { number = 0; submission = decode b }

abbrev unread : Read
unread = record { number = 3; submission = nothing }

read_so : (form : Form) (b : List ℕ) (x : Bool) → accepted_by form b ≡ x → read_by form b ≡ cond x (read b) unread
unfolding read_by
read_so form b x e = ap (λ (y : Bool). cond y (read b) unread) e

-- the length and the mark stay
length_kept : (b : List ℕ) → length (convert_record b) ≡ length b
unfolding convert_record
length_kept b = length-set (set b OPERATION_AT (operation_byte b)) FLAGS_AT (flags_byte b) ∙ length-set b OPERATION_AT (operation_byte b)

mark_kept : (b : List ℕ) (k : ℕ) → k < OPERATION_AT → get_or (convert_record b) k 0 ≡ get_or b k 0
unfolding convert_record
mark_kept b k h =
    get_or-set_other (set b OPERATION_AT (operation_byte b)) FLAGS_AT k (flags_byte b) 0 (omega arith)
    ∙ get_or-set_other b OPERATION_AT k (operation_byte b) 0 (omega arith)

-- the converted record, by what the old form reads as the operation
converted_by : (b : List ℕ) (o : ℕ) → old_operation b ≡ o → convert_record b ≡ set (set b OPERATION_AT (new_operation o)) FLAGS_AT (new_flags o (get_or b FLAGS_AT 0))
unfolding convert_record
converted_by b o e = ap (λ (k : ℕ). set (set b OPERATION_AT (new_operation k)) FLAGS_AT (new_flags k (get_or b FLAGS_AT 0))) e

decoded_by : (b : List ℕ) (r : Read) → read_by Old b ≡ r → length b ≡ RECORD_BYTES
    → decode (convert_record b) ≡ reformed (new_operation r.submission.op) (new_flags r.submission.op (get_or b FLAGS_AT 0)) (decode b)
unfolding old_operation
decoded_by b r e l = ap decode (converted_by b r.submission.op (ap (λ (q : Read). q.submission.op) e)) ∙ decode_set b _ _ l

-- a record of the old form
module _ (b : List ℕ) (t : accepted_by Old b ≡ true) where
  tests : (k : ℕ) → get_or (accept_tests Old b) k true ≡ true
  unfolding accepted_by
  tests = all_at (accept_tests Old b) t

  decoded_is : decode (convert_record b) ≡ today (decode b)
  unfolding decode
  decoded_is = decoded_by b (read b) (read_so Old b true t) (eqb-true (length b) RECORD_BYTES (tests 0))

  formed_so : FormedToday (decode b) (today (decode b))
  formed_so = today_formed (decode b) (tests 3)

  accepted_so : accepted_by Today (convert_record b) ≡ true
  unfolding accepted_by
  accepted_so =
      rw (length_kept b, mark_kept b 0 (lit< tt), mark_kept b 1 (lit< tt), tests 0, tests 1, tests 2, decoded_is)
      formed_so.formed

  read_both : Reads (read b) (read_by Today (convert_record b))
  read_both = rw (read_so Today (convert_record b) true accepted_so, decoded_is) (record { number = refl; converts = formed_so.converts })

-- malformed by the old form: its operation is 0 then, so it is malformed by today's too
module _ (b : List ℕ) (f : accepted_by Old b ≡ false) where
  refused_so : accepted_by Today (convert_record b) ≡ false
  refused_so = go (accepted_by Today (convert_record b)) refl
    where
      go : (x : Bool) → accepted_by Today (convert_record b) ≡ x → x ≡ false
      go false e = refl
      go true e =
          let a = accepted_says (convert_record b) e in
          let l : length b ≡ RECORD_BYTES = sym (length_kept b) ∙ a.bytes in
          let z : decode (convert_record b) ≡ reformed 0 (get_or b FLAGS_AT 0) (decode b) = decoded_by b unread (read_so Old b false f) l in
          absurd (omega (arith, (formed_says (decode (convert_record b)) a.formed).low, ap (λ (s : Submission). s.op) z))

  read_neither : Reads unread (read_by Today (convert_record b))
  read_neither =
      rw (read_so Today (convert_record b) false refused_so)
      (record { number = refl; converts = stays nothing (omega arith) (omega arith) })

pub read_converted : (b : List ℕ) → Reads (read_by Old b) (read_by Today (convert_record b))
unfolding read_by
read_converted b =
    cond_case (λ (r : Read). Reads r (read_by Today (convert_record b))) (accepted_by Old b) (read b) unread (read_both b) (read_neither b)
