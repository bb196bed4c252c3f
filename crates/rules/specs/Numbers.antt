-- Each answer as a number of the paper's list: a refusal's own, and 0 where nothing is refused.
use Rattle.std.specs.Prelude.{ℕ, List, [], ◌∷◌, Bool, cond, Option, None, Some, Result, Ok, Err}
use Rattle.rules.specs.Record.{nothing}
use Rattle.rules.specs.declared.Answer.{Answer}
use Rattle.rules.specs.declared.Decided.{Decided}
use Rattle.rules.specs.declared.Read.{Read}
use Rattle.rules.specs.declared.Submission.{Submission}
use Rattle.rules.specs.declared.refusal.Refusal.{Refusal}
use Rattle.rules.specs.declared.refusal.Refusal.TheVariants.{BadTable, LedgerDamaged, MalformedRecord, ClockBack, SystemFrozen, InvalidSignature, NotAdmin, EnvelopeNotYetValid, EnvelopeExpired, EnvelopeWindowTooLong, NonceSeen, AmountOutOfRange, SenderNotFound, SenderFrozen, RecipientInvalid, WalletNotFound, InsufficientBalance, PerTxCapExceeded, DailyCapExceeded, EscrowDeadlinePast, EscrowDeadlineExceedsMax, ProviderNotFound, RequesterNotFound, AcceptanceWindowTooShort, AcceptanceWindowTooLong, AcceptanceDeadlinePast, EscrowNotFound, EscrowSignerNotAuthorized, EscrowNotOpen, EscrowDidMismatch, AcceptanceDeadlineExceedsEscrow, ReceiptNotFound, ReceiptSignerNotAuthorized, ReceiptNotPending, DisputeReasonRequired, GrantLimit, WalletTableFull, EscrowTableFull, ReceiptTableFull, JournalTableFull, AcceptanceClosed, WalletNotEmpty, WalletClosed}

-- "For every answer that is an enum, a definition states this paper's number": the column `no.` beside the column `name`
abbrev pub number_of : Refusal → ℕ
number_of BadTable = 1
number_of LedgerDamaged = 2
number_of MalformedRecord = 3
number_of ClockBack = 4
number_of SystemFrozen = 5
number_of InvalidSignature = 6
number_of NotAdmin = 7
number_of EnvelopeNotYetValid = 8
number_of EnvelopeExpired = 9
number_of EnvelopeWindowTooLong = 10
number_of NonceSeen = 11
number_of AmountOutOfRange = 12
number_of SenderNotFound = 13
number_of SenderFrozen = 14
number_of RecipientInvalid = 15
number_of WalletNotFound = 16
number_of InsufficientBalance = 17
number_of PerTxCapExceeded = 18
number_of DailyCapExceeded = 19
number_of EscrowDeadlinePast = 20
number_of EscrowDeadlineExceedsMax = 21
number_of ProviderNotFound = 22
number_of RequesterNotFound = 23
number_of AcceptanceWindowTooShort = 24
number_of AcceptanceWindowTooLong = 25
number_of AcceptanceDeadlinePast = 26
number_of EscrowNotFound = 27
number_of EscrowSignerNotAuthorized = 28
number_of EscrowNotOpen = 29
number_of EscrowDidMismatch = 30
number_of AcceptanceDeadlineExceedsEscrow = 31
number_of ReceiptNotFound = 32
number_of ReceiptSignerNotAuthorized = 33
number_of ReceiptNotPending = 34
number_of DisputeReasonRequired = 35
number_of GrantLimit = 36
number_of WalletTableFull = 37
number_of EscrowTableFull = 38
number_of ReceiptTableFull = 39
number_of JournalTableFull = 40
number_of AcceptanceClosed = 41
number_of WalletNotEmpty = 42
number_of WalletClosed = 43

-- the number of an answer
abbrev pub as_number : {A : Type 0} → Result A Refusal → ℕ
as_number (Ok x) = 0
as_number (Err r) = number_of r

-- its word: a refusal's is 0
abbrev pub word_of : Result ℕ Refusal → ℕ
word_of (Ok word) = word
word_of (Err r) = 0

abbrev pub answer_to : Result ℕ Refusal → Answer
answer_to r = record { number = as_number r; word = word_of r }

-- "A malformed record is read as answer 3 with every field 0."
abbrev pub read_as : Option Submission → Read
read_as (Some s) = record { number = 0; submission = s }
read_as None = record { number = 3; submission = nothing }

-- what is decided of a record, as `decided` of Submit.antt has it
abbrev pub decided_as : Decided → Read
decided_as d = record { number = as_number d.outcome; submission = d.submission }

-- what the first check that holds refuses by
unfoldable pub first_of : {E : Type 0} → List (Bool × E) → Result Unit E
first_of [] = Ok tt
first_of (check ∷ checks) = cond check.0 (Err check.1) (first_of checks)
