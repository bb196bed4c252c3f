-- What is heard of a list of calls, taken apart at one of its events: the calls before it, the call itself, and the calls behind it. So what the
-- definitions promise of calls is promised of what is heard: the books begin where a start afresh is heard first, and a retry that is heard is
-- a refusal.
use mathlib.Core.Path.{◌≡◌, refl, sym, ap, ◌∙◌, subst}
use mathlib.Core.Logic.{◌≢◌}
use mathlib.Core.List.{List, [], ◌∷◌, ◌++◌, append_assoc}
use mathlib.Core.Bool.{true}
use Prim.Native.Nat.{ℕ, suc, ◌≤◌}
use native.Mathlib.Omega.{arith}
use Rattle.rules.specs.Limits.{HEADER_LEN, SWEEP}
use Rattle.rules.specs.Ledger.{Edition, Ledger, fresh}
use Rattle.rules.specs.Submit.{submit}
use Rattle.rules.specs.Recording.{Entry, as_entry}
use Rattle.rules.specs.History.{Call, starts_afresh, submits, reads, writes, asks_status, finds_wallet, finds_escrow, finds_receipt, Event, Said, said_of, submitted, begun, leaves, says, after, said, unbroken}
use Rattle.rules.specs.Promises.{started, Refused}
use Rattle.rules.proofs.Lengths.{lengths_stay}
use Rattle.rules.proofs.ReplayGuard.{replay_guard}

-- ---- calls, and then more calls

pub after_more : (L : Ledger) (xs ys : List Call) → after L (xs ++ ys) ≡ after (after L xs) ys
after_more L [] ys = refl
after_more L (x ∷ xs) ys = after_more (leaves L x) xs ys

pub said_more : (L : Ledger) (xs ys : List Call) → said L (xs ++ ys) ≡ said L xs ++ said (after L xs) ys
said_more L [] ys = refl
said_more L (x ∷ xs) ys =
    ap (λ (l : List Event). says L x ++ l) (said_more (leaves L x) xs ys) ∙ sym (append_assoc (says L x) (said (leaves L x) xs) (said (after L (x ∷ xs)) ys))

-- what is submitted in calls, with the answers of the definitions
abbrev pub answered_on : Ledger → List Call → List Entry
answered_on L [] = []
answered_on L (starts_afresh ∷ cs) = answered_on (started L) cs
answered_on L (submits b ∷ cs) = as_entry b (submit L b).number (submit L b).word ∷ answered_on (submit L b).left cs
answered_on L (reads b ∷ cs) = answered_on L cs
answered_on L (writes s out ∷ cs) = answered_on L cs
answered_on L (asks_status n ∷ cs) = answered_on L cs
answered_on L (finds_wallet id ∷ cs) = answered_on L cs
answered_on L (finds_escrow k ∷ cs) = answered_on L cs
answered_on L (finds_receipt k ∷ cs) = answered_on L cs

pub answered_more : (L : Ledger) (xs ys : List Call) → answered_on L (xs ++ ys) ≡ answered_on L xs ++ answered_on (after L xs) ys
answered_more L [] ys = refl
answered_more L (starts_afresh ∷ xs) ys = answered_more (started L) xs ys
answered_more L (submits b ∷ xs) ys =
    ap (λ (l : List Entry). as_entry b (submit L b).number (submit L b).word ∷ l) (answered_more (submit L b).left xs ys)
answered_more L (reads b ∷ xs) ys = answered_more L xs ys
answered_more L (writes s out ∷ xs) ys = answered_more L xs ys
answered_more L (asks_status n ∷ xs) ys = answered_more L xs ys
answered_more L (finds_wallet id ∷ xs) ys = answered_more L xs ys
answered_more L (finds_escrow k ∷ xs) ys = answered_more L xs ys
answered_more L (finds_receipt k ∷ xs) ys = answered_more L xs ys

-- ---- the first event, and the rest

-- 0 where nothing is heard, 1 where a submission is heard first, and two more than the answer where that is a start afresh
abbrev pub opening : List Event → ℕ
opening [] = 0
opening (submitted e ∷ es) = 1
opening (begun n ∷ es) = suc (suc n)

abbrev first_of : Event → List Event → Event
first_of d [] = d
first_of d (e ∷ es) = e

abbrev pub first_said : Said → List Event → Said
first_said d [] = d
first_said d (begun n ∷ es) = d
first_said d (submitted e ∷ es) = e

abbrev behind_first : List Event → List Event
behind_first [] = []
behind_first (e ∷ es) = es

-- something is heard
abbrev none : List Event → ℕ
none [] = 1
none (e ∷ es) = 0

pub some_heard : {es : List Event} (before : List Event) (e : Event) (behind : List Event) → es ≡ before ++ (e ∷ behind) → es ≢ []
some_heard [] e behind x n = omega (arith, ap none (sym x ∙ n))
some_heard (d ∷ before) e behind x n = omega (arith, ap none (sym x ∙ n))

-- ---- a submission that is heard

-- between what was heard before and behind, it was submitted, and answered so
pub record Splits (L : Ledger) (before : List Event) (e : Said) (behind : List Event) : Type 0 where
  pub first : List Call
  pub bytes : List ℕ
  pub rest : List Call
  pub heard_first : said L first ≡ before
  pub says_so : said_of bytes (submit (after L first) bytes) ≡ e
  pub heard_rest : said (submit (after L first) bytes).left rest ≡ behind

-- a call before it
onward : (L : Ledger) (c : Call) {before all : List Event} {e : Said} {behind : List Event} → says L c ++ before ≡ all
    → Splits (leaves L c) before e behind → Splits L all e behind
onward L c h s = record {
  first = c ∷ s.first;
  bytes = s.bytes;
  rest = s.rest;
  heard_first = ap (λ (l : List Event). says L c ++ l) s.heard_first ∙ h;
  says_so = s.says_so;
  heard_rest = s.heard_rest;
}

pub splits : (L : Ledger) (cs : List Call) (before : List Event) (e : Said) (behind : List Event) → said L cs ≡ before ++ (submitted e ∷ behind)
    → Splits L before e behind
splits L [] [] e behind x = absurd (omega (arith, ap opening x))
splits L [] (submitted d ∷ before) e behind x = absurd (omega (arith, ap opening x))
splits L [] (begun n ∷ before) e behind x = absurd (omega (arith, ap opening x))
splits L (starts_afresh ∷ cs) [] e behind x = absurd (omega (arith, ap opening x))
splits L (starts_afresh ∷ cs) (d ∷ before) e behind x =
    onward L starts_afresh (ap (λ (f : Event). f ∷ before) (ap (first_of d) x)) (splits (started L) cs before e behind (ap behind_first x))
splits L (submits b ∷ cs) [] e behind x = record {
  first = [];
  bytes = b;
  rest = cs;
  heard_first = refl;
  says_so = ap (first_said e) x;
  heard_rest = ap behind_first x;
}
splits L (submits b ∷ cs) (d ∷ before) e behind x =
    onward L (submits b) (ap (λ (f : Event). f ∷ before) (ap (first_of d) x)) (splits (submit L b).left cs before e behind (ap behind_first x))
splits L (reads b ∷ cs) before e behind x = onward L (reads b) refl (splits L cs before e behind x)
splits L (writes s out ∷ cs) before e behind x = onward L (writes s out) refl (splits L cs before e behind x)
splits L (asks_status n ∷ cs) before e behind x = onward L (asks_status n) refl (splits L cs before e behind x)
splits L (finds_wallet id ∷ cs) before e behind x = onward L (finds_wallet id) refl (splits L cs before e behind x)
splits L (finds_escrow k ∷ cs) before e behind x = onward L (finds_escrow k) refl (splits L cs before e behind x)
splits L (finds_receipt k ∷ cs) before e behind x = onward L (finds_receipt k) refl (splits L cs before e behind x)

-- THE RETRY, as it is heard
pub retry_heard : (L : Ledger) → HEADER_LEN ≤ L.edition.header → (cs : List Call) (before between behind : List Event) (e f : Said)
    → said L cs ≡ before ++ (submitted e ∷ (between ++ (submitted f ∷ behind))) → unbroken between ≡ true → e.number ≡ 0
    → e.submission.op ≢ SWEEP → f.submission.signer ≡ e.submission.signer → f.submission.nonce ≡ e.submission.nonce
    → (f.number ≢ 0) × (f.word ≡ 0)
retry_heard L h cs before between behind e f x whole zero no_sweep same_signer same_nonce = (
  (λ z. refused.number (ap (λ (s : Said). s.number) again.says_so ∙ z)),
  sym (ap (λ (s : Said). s.word) again.says_so) ∙ refused.word,
)
  where
    once : Splits L before e (between ++ (submitted f ∷ behind))
    once = splits L cs before e (between ++ (submitted f ∷ behind)) x

    M : Ledger
    M = after L once.first

    again : Splits (submit M once.bytes).left between f behind
    again = splits (submit M once.bytes).left once.rest between f behind once.heard_rest

    refused : Refused (after (submit M once.bytes).left again.first) again.bytes
    refused =
        replay_guard M (subst (λ (d : Edition). HEADER_LEN ≤ d.header) (sym (lengths_stay L h once.first).edition) h) once.bytes again.first
        again.bytes (ap (λ (s : Said). s.number) once.says_so ∙ zero)
        (λ s. no_sweep (sym (ap (λ (s : Said). s.submission.op) once.says_so) ∙ s)) (ap unbroken again.heard_first ∙ whole)
        (ap (λ (s : Said). s.submission.signer) again.says_so ∙ same_signer ∙ sym (ap (λ (s : Said). s.submission.signer) once.says_so))
        (ap (λ (s : Said). s.submission.nonce) again.says_so ∙ same_nonce ∙ sym (ap (λ (s : Said). s.submission.nonce) once.says_so))

-- ---- a start afresh that is heard first

pub record Begins (L last : Ledger) (answers : List Entry) (heard : List Event) : Type 0 where
  pub number : (fresh L).number ≡ 0
  pub rest : List Call
  pub after_rest : last ≡ after (started L) rest
  pub heard_rest : said (started L) rest ≡ heard
  pub answered_rest : answers ≡ answered_on (started L) rest

pub begins : (L : Ledger) (cs : List Call) (heard : List Event) → said L cs ≡ (begun 0 ∷ heard) → Begins L (after L cs) (answered_on L cs) heard
begins L [] heard x = absurd (omega (arith, ap opening x))
begins L (starts_afresh ∷ cs) heard x =
    let y : suc (suc (fresh L).number) ≡ 2 = ap opening x in
    record { number = omega (arith, y); rest = cs; after_rest = refl; heard_rest = ap behind_first x; answered_rest = refl }
begins L (submits b ∷ cs) heard x = absurd (omega (arith, ap opening x))
begins L (reads b ∷ cs) heard x = begins L cs heard x
begins L (writes s out ∷ cs) heard x = begins L cs heard x
begins L (asks_status n ∷ cs) heard x = begins L cs heard x
begins L (finds_wallet id ∷ cs) heard x = begins L cs heard x
begins L (finds_escrow k ∷ cs) heard x = begins L cs heard x
begins L (finds_receipt k ∷ cs) heard x = begins L cs heard x
