-- The number of what a list of checks refuses, worked out check by check; what a `?` hands on of it; and that number and word decide an answer, and what
-- bytes are read as what the reader answers, so that contracts which speak of these promise no less than the whole answer.
use Rattle.std.specs.Prelude.{◌≡◌, ◌≢◌, List, [], ◌∷◌, ◌++◌, Bool, true, false, cond, ℕ, zero, suc, slice_index_or, Option, None, Some, Result, Ok, Err, IsErr}
use Rattle.std.specs.Result.{IsErrAnd}
use Rattle.std.proofs.lemmas.Result.{err_from_is_err_and}
use mathlib.Core.Path.{refl, sym, ap, ◌∙◌}
use native.Mathlib.Omega.{arith}
use Rattle.rules.specs.Numbers.{number_of, as_number, word_of, read_as, first_of}
use Rattle.rules.specs.Refusals.{first}
use Rattle.rules.specs.Refusals.{Refusal as Row}
use Rattle.rules.proofs.Refused.{first_stop, first_pass}
use Rattle.rules.proofs.Refused.{numbered as all_numbered}
use Rattle.rules.specs.declared.Read.{Read}
use Rattle.rules.specs.declared.Submission.{Submission}
use Rattle.rules.specs.declared.refusal.Refusal.{Refusal}
use Rattle.rules.specs.declared.refusal.Refusal.TheVariants.{BadTable, LedgerDamaged, MalformedRecord, ClockBack, SystemFrozen, InvalidSignature, NotAdmin, EnvelopeNotYetValid, EnvelopeExpired, EnvelopeWindowTooLong, NonceSeen, AmountOutOfRange, SenderNotFound, SenderFrozen, RecipientInvalid, WalletNotFound, InsufficientBalance, PerTxCapExceeded, DailyCapExceeded, EscrowDeadlinePast, EscrowDeadlineExceedsMax, ProviderNotFound, RequesterNotFound, AcceptanceWindowTooShort, AcceptanceWindowTooLong, AcceptanceDeadlinePast, EscrowNotFound, EscrowSignerNotAuthorized, EscrowNotOpen, EscrowDidMismatch, AcceptanceDeadlineExceedsEscrow, ReceiptNotFound, ReceiptSignerNotAuthorized, ReceiptNotPending, DisputeReasonRequired, GrantLimit, WalletTableFull, EscrowTableFull, ReceiptTableFull, JournalTableFull, AcceptanceClosed, WalletNotEmpty, WalletClosed}

-- the number of the first check that holds, or 0
abbrev pub chain : List (Bool × Refusal) → ℕ
chain [] = 0
chain (check ∷ checks) = cond check.0 (number_of check.1) (chain checks)

pub numbered_first : {answer : Result Unit Refusal} (checks : List (Bool × Refusal)) → answer ≡ first_of checks → as_number answer ≡ chain checks
unfolding first_of
numbered_first checks e = ap as_number e ∙ go checks where
  go : (checks : List (Bool × Refusal)) → as_number (first_of checks) ≡ chain checks
  go [] = refl
  go ((true, r) ∷ checks) = refl
  go ((false, r) ∷ checks) = go checks

-- no refusal has the number 0
pub not_0 : (r : Refusal) → number_of r ≢ 0
not_0 r = grind arith

-- ---- What a `?` hands on, and what it lets pass

-- a refusal as it leaves the function, and its number
pub hands_on : {B : Type 0} (whole : Result B Refusal) (r : Refusal) → IsErr whole × IsErrAnd whole (λ y. y ≡ r) → whole ≡ Err r
hands_on whole r e = let p = err_from_is_err_and whole e.1 in p.1 ∙ ap Err p.2

leaves : {B : Type 0} (whole : Result B Refusal) (r : Refusal) → IsErr whole × IsErrAnd whole (λ y. y ≡ r) → as_number whole ≡ number_of r
leaves whole r e = ap as_number (hands_on whole r e)

-- behind a table: the number of its first check that holds, or else the rest
abbrev pub before : List (Bool × Refusal) → ℕ → ℕ
before [] rest = rest
before (check ∷ checks) rest = cond check.0 (number_of check.1) (before checks rest)

pub refused :
    {B : Type 0} {part : Result Unit Refusal} {r : Refusal} (whole : Result B Refusal) (checks : List (Bool × Refusal)) (rest : ℕ)
    → part ≡ first_of checks → part ≡ Err r → IsErr whole × IsErrAnd whole (λ y. y ≡ r) → as_number whole ≡ before checks rest
unfolding first_of
refused {r = r} whole checks rest e was q = leaves whole r q ∙ go checks (sym was ∙ e) where
  go : (checks : List (Bool × Refusal)) → Err r ≡ first_of checks → number_of r ≡ before checks rest
  go [] e = cc
  go ((true, k) ∷ checks) e = cc
  go ((false, k) ∷ checks) e = go checks e

pub passed :
    {part : Result Unit Refusal} {x : Unit} (checks : List (Bool × Refusal)) (rest : ℕ)
    → part ≡ first_of checks → part ≡ Ok x → rest ≡ before checks rest
unfolding first_of
passed {x = x} checks rest e was = go checks (sym was ∙ e) where
  go : (checks : List (Bool × Refusal)) → Ok x ≡ first_of checks → rest ≡ before checks rest
  go [] e = refl
  go ((true, k) ∷ checks) e = cc
  go ((false, k) ∷ checks) e = go checks e

-- behind a part whose contract has the rows xs of the table of refusals: the first of these, or else of the rows ys behind them
pub refused_by :
    {A B : Type 0} {part : Result A Refusal} {r : Refusal} (whole : Result B Refusal) (xs ys : List Row)
    → as_number part ≡ first xs → part ≡ Err r → IsErr whole × IsErrAnd whole (λ y. y ≡ r) → as_number whole ≡ first (xs ++ ys)
refused_by {r = r} whole xs ys e was q =
    let is : number_of r ≡ first xs = sym (ap as_number was) ∙ e in
    leaves whole r q ∙ is ∙ sym (first_stop xs ys (λ z. not_0 r (is ∙ z)))

pub passed_by :
    {A : Type 0} {part : Result A Refusal} {x : A} (xs ys : List Row)
    → all_numbered xs ≡ true → as_number part ≡ first xs → part ≡ Ok x → first ys ≡ first (xs ++ ys)
passed_by xs ys n e was = sym (first_pass xs ys n (sym e ∙ ap as_number was))

-- ---- number and word decide an answer, and the number alone one that has no word

-- the refusal of a number, 0 for none
names : List Refusal
names =
    BadTable ∷ LedgerDamaged ∷ MalformedRecord ∷ ClockBack ∷ SystemFrozen ∷ InvalidSignature
    ∷ NotAdmin ∷ EnvelopeNotYetValid ∷ EnvelopeExpired ∷ EnvelopeWindowTooLong ∷ NonceSeen ∷ AmountOutOfRange
    ∷ SenderNotFound ∷ SenderFrozen ∷ RecipientInvalid ∷ WalletNotFound ∷ InsufficientBalance ∷ PerTxCapExceeded
    ∷ DailyCapExceeded ∷ EscrowDeadlinePast ∷ EscrowDeadlineExceedsMax ∷ ProviderNotFound ∷ RequesterNotFound ∷ AcceptanceWindowTooShort
    ∷ AcceptanceWindowTooLong ∷ AcceptanceDeadlinePast ∷ EscrowNotFound ∷ EscrowSignerNotAuthorized ∷ EscrowNotOpen ∷ EscrowDidMismatch
    ∷ AcceptanceDeadlineExceedsEscrow ∷ ReceiptNotFound ∷ ReceiptSignerNotAuthorized ∷ ReceiptNotPending ∷ DisputeReasonRequired ∷ GrantLimit
    ∷ WalletTableFull ∷ EscrowTableFull ∷ ReceiptTableFull ∷ JournalTableFull ∷ AcceptanceClosed ∷ WalletNotEmpty
    ∷ WalletClosed ∷ []

refusal_of : ℕ → Option Refusal
refusal_of zero = None
refusal_of (suc n) = Some (slice_index_or names n BadTable)

back : (r : Refusal) → refusal_of (number_of r) ≡ Some r
unfolding refusal_of names
back BadTable = refl
back LedgerDamaged = refl
back MalformedRecord = refl
back ClockBack = refl
back SystemFrozen = refl
back InvalidSignature = refl
back NotAdmin = refl
back EnvelopeNotYetValid = refl
back EnvelopeExpired = refl
back EnvelopeWindowTooLong = refl
back NonceSeen = refl
back AmountOutOfRange = refl
back SenderNotFound = refl
back SenderFrozen = refl
back RecipientInvalid = refl
back WalletNotFound = refl
back InsufficientBalance = refl
back PerTxCapExceeded = refl
back DailyCapExceeded = refl
back EscrowDeadlinePast = refl
back EscrowDeadlineExceedsMax = refl
back ProviderNotFound = refl
back RequesterNotFound = refl
back AcceptanceWindowTooShort = refl
back AcceptanceWindowTooLong = refl
back AcceptanceDeadlinePast = refl
back EscrowNotFound = refl
back EscrowSignerNotAuthorized = refl
back EscrowNotOpen = refl
back EscrowDidMismatch = refl
back AcceptanceDeadlineExceedsEscrow = refl
back ReceiptNotFound = refl
back ReceiptSignerNotAuthorized = refl
back ReceiptNotPending = refl
back DisputeReasonRequired = refl
back GrantLimit = refl
back WalletTableFull = refl
back EscrowTableFull = refl
back ReceiptTableFull = refl
back JournalTableFull = refl
back AcceptanceClosed = refl
back WalletNotEmpty = refl
back WalletClosed = refl

pub same_outcome : (x y : Result Unit Refusal) → as_number x ≡ as_number y → x ≡ y
unfolding refusal_of
same_outcome (Ok x) (Ok y) n = refl
same_outcome (Ok x) (Err s) n = absurd (let e : None ≡ Some s = ap refusal_of n ∙ back s in cc)
same_outcome (Err r) (Ok y) n = absurd (let e : Some r ≡ None = sym (back r) ∙ ap refusal_of n in cc)
same_outcome (Err r) (Err s) n = let e : Some r ≡ Some s = sym (back r) ∙ ap refusal_of n ∙ back s in cc

pub same_answer : (x y : Result ℕ Refusal) → as_number x ≡ as_number y → word_of x ≡ word_of y → x ≡ y
same_answer (Ok x) (Ok y) n w = ap Ok w
same_answer (Ok x) (Err s) n w = absurd (let e = same_outcome (Ok tt) (Err s) n in cc)
same_answer (Err r) (Ok y) n w = absurd (let e = same_outcome (Err r) (Ok tt) n in cc)
same_answer (Err r) (Err s) n w = let e = same_outcome (Err r) (Err s) n in cc

-- ---- and what bytes are read as decides what the reader answers

pub same_read : (x y : Option Submission) → read_as x ≡ read_as y → x ≡ y
same_read (Some x) (Some y) e = ap (λ (r : Read). Some r.submission) e
same_read (Some x) None e = let k : ◌≡◌ {A = ℕ} 0 3 = ap (λ (r : Read). r.number) e in absurd (omega arith)
same_read None (Some y) e = let k : ◌≡◌ {A = ℕ} 3 0 = ap (λ (r : Read). r.number) e in absurd (omega arith)
same_read None None e = refl
