-- The record read back: what is written is read as it was, and what was read is written back byte by byte. So reader and writer are
-- inverse to each other where they accept.
use mathlib.Core.Path.{◌≡◌, refl, sym, ap, ap₂, ◌∙◌}
use mathlib.Core.List.{List, ◌∷◌}
use mathlib.Core.Bool.{Bool, true, false, cond, ◌&&◌}
use Prim.Native.Nat.{ℕ, ◌^◌, ◌≤◌}
use native.Mathlib.Omega.{arith}
use lib.Dec.{eqb}
use lib.ListN.{get_or, length, drop, length-drop}
use lib.Seq.{take_all, drop-cons}
use borrow.Author.Tests.{eq-eqb}
use Rattle.rules.specs.Limits.{RECORD_BYTES, MARK_0, MARK_1}
use Rattle.rules.specs.Record.{decode, encode, words_of, word_bytes, well_formed, nothing, accepted_by, accepted, read_by, read_of, Written, write_of}
use Rattle.rules.specs.Promises.{Fields, Bytes, WrittenRead, ReadWritten}
use Rattle.rules.specs.declared.Submission.{Submission}
use Rattle.rules.specs.declared.Read.{Read}
use Rattle.rules.proofs.Bools.{and_snd}
use Rattle.rules.proofs.Formed.{accepted_says}
use Rattle.rules.proofs.Le.{AllBelow, sums_are, words_at, words_are}

-- a submission from its two bytes and its words
abbrev of_words : ℕ → ℕ → List ℕ → Submission
of_words op flags ws = record {
  op = op;
  flags = flags;
  now = get_or ws 0 0;
  signer = get_or ws 1 0;
  nonce = get_or ws 2 0;
  issued = get_or ws 3 0;
  expires = get_or ws 4 0;
  target = get_or ws 5 0;
  amount = get_or ws 6 0;
  until = get_or ws 7 0;
  link = get_or ws 8 0;
  hash0 = get_or ws 9 0;
  hash1 = get_or ws 10 0;
  hash2 = get_or ws 11 0;
  hash3 = get_or ws 12 0;
}

-- ---- written, then read
decoded : (s : Submission) → AllBelow (2 ^ 64) (words_of s) → decode (encode s) ≡ s
unfolding decode encode
decoded s h = ap (of_words s.op s.flags) (sums_are 8 (words_of s) h)

-- every submission that is well-formed is read back equal from its bytes
pub encoded_read : (s : Submission) → AllBelow (2 ^ 64) (words_of s) → well_formed s ≡ true → read_of (encode s) ≡ record { number = 0; submission = s }
unfolding read_by accepted_by encode
encoded_read s h w = rw (decoded s h, w)

-- the words of a submission whose fields fit
words_fit : (s : Submission) → Fields s → AllBelow (2 ^ 64) (words_of s)
words_fit s f =
    (f.now, (f.signer, (f.nonce, (f.issued, (f.expires, (f.target, (f.amount, (f.until, (f.link, (f.hash0, (f.hash1, (f.hash2, (f.hash3, tt)))))))))))))

-- THE PROMISE: what the writer wrote is read back as it was
pub written_read : WrittenRead
unfolding write_of
written_read s out f e = go (eqb (length out) RECORD_BYTES && well_formed s) refl e
  where
    wrote : Bool → Written
    wrote b = cond b (record { number = 0; out = encode s }) (record { number = 3; out = out })

    go : (b : Bool) → eqb (length out) RECORD_BYTES && well_formed s ≡ b → (wrote b).number ≡ 0 → read_of (wrote b).out ≡ record { number = 0; submission = s }
    go true x n = encoded_read s (words_fit s f) (and_snd (eqb (length out) RECORD_BYTES) (well_formed s) x)
    go false x n = let k : ◌≡◌ {A = ℕ} 3 0 = n in absurd (omega arith)

-- ---- read, then written
-- a list by its first four elements and the rest
four : (b : List ℕ) → 4 ≤ length b → b ≡ get_or b 0 0 ∷ get_or b 1 0 ∷ get_or b 2 0 ∷ get_or b 3 0 ∷ drop 4 b
four b h =
    let cons : ℕ → List ℕ → List ℕ = λ x xs. x ∷ xs in
    drop-cons b 0 0 (omega arith)
    ∙ ap (cons (get_or b 0 0)) (drop-cons b 1 0 (omega arith) ∙ ap (cons (get_or b 1 0)) (drop-cons b 2 0 (omega arith) ∙ ap (cons (get_or b 2 0)) (drop-cons b 3 0 (omega arith))))

encoded : (b : List ℕ) → Bytes b → length b ≡ RECORD_BYTES → get_or b 0 0 ≡ MARK_0 → get_or b 1 0 ≡ MARK_1 → encode (decode b) ≡ b
unfolding decode encode
encoded b y h m0 m1 =
    let r : word_bytes (words_at 13 b 4) ≡ drop 4 b = words_are 13 b 4 y (omega arith) ∙ take_all 104 (drop 4 b) (omega (arith, length-drop 4 b)) in
    ap (λ (xs : List ℕ). MARK_0 ∷ MARK_1 ∷ get_or b 2 0 ∷ get_or b 3 0 ∷ xs) r
    ∙ sym (four b (omega arith) ∙ ap₂ (λ (x y : ℕ). x ∷ y ∷ get_or b 2 0 ∷ get_or b 3 0 ∷ drop 4 b) m0 m1)

-- THE PROMISE: every accepted record, read and written back, is the same bytes
pub read_written : ReadWritten
unfolding read_by write_of
read_written b out y e h = go (accepted b) refl e
  where
    read : Bool → Read
    read a = cond a (record { number = 0; submission = decode b }) (record { number = 3; submission = nothing })

    go : (a : Bool) → accepted b ≡ a → (read a).number ≡ 0 → write_of (read a).submission out ≡ record { number = 0; out = b }
    go true x n =
        let a = accepted_says b x in
        let z : encode (decode b) ≡ b = encoded b y a.bytes a.mark_0 a.mark_1 in
        rw (eq-eqb (length out) RECORD_BYTES h, a.formed, z)
    go false x n = let k : ◌≡◌ {A = ℕ} 3 0 = n in absurd (omega arith)
