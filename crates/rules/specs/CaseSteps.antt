-- The steps of the checked cases by name: those of P1 to P12, and behind them those of each change request.
use Rattle.std.specs.Prelude.{List, [], ◌∷◌, ◌++◌, ℕ, ◌+◌, set, replicate}
use Rattle.rules.specs.Limits.{GRANT, TRANSFER, OPEN, RELEASE, REFUND, CLAIM, REPLY, OLD_DISPUTE, SWEEP, FREEZE, CAPS, CLOSE, OPERATION_AT, ALL_AGREE, FIGURES}
use Rattle.rules.specs.Limits.{DEFAULT_TX_CAP_MICRO, DEFAULT_DAILY_CAP_MICRO, RELEASED, ACCEPTED, DISPUTED}
use Rattle.rules.specs.Ledger.{Ledger, ledger}
use Rattle.rules.specs.Record.{encode}
use Rattle.rules.specs.Recording.{Entry, as_entry}
use Rattle.rules.specs.Replay.{answer, verdict}
use Rattle.rules.specs.Report.{Report, report_of, blank_report}
use Rattle.rules.specs.Trials.{Step, Counted, ODD_WORD, tables, sub, step, leaves, has, with_cells}
use Rattle.rules.specs.declared.Submission.{Submission}
use Rattle.rules.specs.declared.Verdict.{Verdict}

-- ---- P1 to P12

-- grant 50,000,000 to 7; its signer is an admin, 1
abbrev pub P1 : Step
P1 = leaves (sub GRANT 0b0011 1_000 1 1 1_000 2_000 7 50_000_000 0 0) 0 0 (has 7 50_000_000 0 ∷ [])

-- 7 opens 20,000,000 to 8, until 501,000
abbrev pub opening : Submission
opening = sub OPEN 0b0001 1_000 7 1 1_000 2_000 8 20_000_000 501_000 0

abbrev pub P2 : Step
P2 = leaves opening 0 1 (has 7 30_000_000 20_000_000 ∷ has 8 0 0 ∷ [])

-- the retry of P2
abbrev pub P3 : Step
P3 = leaves opening 11 0 (has 7 30_000_000 20_000_000 ∷ [])

-- 7 releases escrow 1
abbrev pub releases : ℕ → ℕ → Submission
releases now nonce = sub RELEASE 0b0001 now 7 nonce now (now + 1_000) 1 0 0 0

abbrev pub P4 : Step
P4 = leaves (releases 501_000 2) 0 0 (has 8 20_000_000 0 ∷ has 7 30_000_000 0 ∷ [])

abbrev pub transfers : ℕ → Submission
transfers amount = sub TRANSFER 0b0001 1_000 7 5 1_000 2_000 8 amount 0 0

-- a grant at 100,000 with this envelope
abbrev pub enveloped : ℕ → ℕ → Submission
enveloped issued expires = sub GRANT 0b0011 100_000 1 1 issued expires 7 1 0 0

-- 7 opens 1,000,000 to 8 at 1,000
abbrev pub opens : ℕ → ℕ → Submission
opens nonce until = sub OPEN 0b0001 1_000 7 nonce 1_000 2_000 8 1_000_000 until 0

-- 8 claims on escrow 1, and 7 accepts a receipt in time
abbrev pub claims : ℕ → Submission
claims nonce = sub CLAIM 0b0001 1_000 8 nonce 1_000 2_000 7 0 400_000 1

abbrev pub accepts : ℕ → ℕ → Submission
accepts nonce number = sub REPLY 0b0101 400_000 7 nonce 400_000 401_000 number 0 0 0

abbrev pub sweeps : Submission
sweeps = sub SWEEP 0 3_000 0 0 0 0 0 1 0 0

-- ---- Request 1: recordings

abbrev pub all_agree : ℕ → Verdict
all_agree n = verdict 0 ALL_AGREE n (answer 0 0) (answer 0 0)

-- ---- Request 2: the daily cap

-- 7 may pay 50,000,000 at once and 20,000,000 a day: an admin's word
abbrev pub capped : ℕ → Step
capped admin = step (sub CAPS 0b0011 1_000 admin 2 1_000 2_000 7 50_000_000 0 20_000_000) 0 0

-- a grant to 8 by an admin, at 1,000
abbrev pub grants_8 : ℕ → Step
grants_8 admin = step (sub GRANT 0b0011 1_000 admin 3 1_000 2_000 8 20_000_000 0 0) 0 0

-- a hold at 1,000 until 501,000
abbrev pub holds_by : ℕ → ℕ → ℕ → ℕ → Submission
holds_by signer nonce target amount = sub OPEN 0b0001 1_000 signer nonce 1_000 2_000 target amount 501_000 0

-- the moments 86,400,000 and 86,400,001 ms after 1,000
abbrev pub DAY_ENDS_MS : ℕ
DAY_ENDS_MS = 86_401_000

abbrev pub DAY_OVER_MS : ℕ
DAY_OVER_MS = 86_401_001

-- 7 pays 1 more to 8
abbrev pub transfers_1 : ℕ → Submission
transfers_1 now = sub TRANSFER 0b0001 now 7 9 now (now + 1_000) 8 1 0 0

abbrev pub opens_1 : ℕ → Submission
opens_1 now = sub OPEN 0b0001 now 7 9 now (now + 1_000) 8 1 (now + 1) 0

-- ---- Request 3: the month's report

-- a record in a recording, where the recorded answer is of no account; and with another first byte
abbrev pub sent : Submission → Entry
sent s = as_entry (encode s) 0 0

abbrev pub unmarked : Submission → Entry
unmarked s = as_entry (set (encode s) 0 0) 3 0

-- an operation byte, and nothing else
abbrev pub bare : ℕ → Submission
bare op = sub op 0 0 0 0 0 0 0 0 0 0

-- a refund and a release at 2,000
abbrev pub refunds_2000 : ℕ → ℕ → Submission
refunds_2000 nonce number = sub REFUND 0b0001 2_000 7 nonce 2_000 3_000 number 0 0 0

abbrev pub releases_2000 : ℕ → ℕ → Submission
releases_2000 nonce number = sub RELEASE 0b0001 2_000 7 nonce 2_000 3_000 number 0 0 0

-- a sweep at a time, with a limit
abbrev pub sweeps_at : ℕ → ℕ → Submission
sweeps_at now limit = sub SWEEP 0 now 0 0 0 0 0 limit 0 0

-- 8 claims on escrow 1, to be accepted by itself after 400,000
abbrev pub claims_auto : ℕ → Submission
claims_auto nonce = sub CLAIM 0b0101 1_000 8 nonce 1_000 2_000 7 0 400_000 1

-- a report with these cells and figures, that has named nothing
abbrev pub brought : List Counted → List ℕ → Report
brought cells figures = report_of (with_cells blank_report.grid cells) figures blank_report.named

abbrev pub NONE_YET : List ℕ
NONE_YET = replicate FIGURES 0

abbrev pub NOTHING_NAMED : List ℕ
NOTHING_NAMED = 0 ∷ 0 ∷ 0 ∷ []

-- ---- Request 4: the newest first

-- 7 pays 1 to 8 at 1,000, with this nonce; and the answer
abbrev pub pays_1 : ℕ → ℕ → Step
pays_1 nonce number = step (sub TRANSFER 0b0001 1_000 7 nonce 1_000 2_000 8 1 0 0) number 0

-- a step's retry
abbrev pub again : Step → Step
again x = step x.submission 11 0

-- a grant of 1 to 7 at 1,000 by an admin, with this nonce; and the answer
abbrev pub grants_1 : ℕ → ℕ → ℕ → Step
grants_1 admin nonce number = step (sub GRANT 0b0011 1_000 admin nonce 1_000 2_000 7 1 0 0) number 0

-- ---- Request 5: no objection after the window

-- the acceptance deadline of `claims` and `claims_auto`, a millisecond later, and two days later
abbrev pub WINDOW_ENDS_MS : ℕ
WINDOW_ENDS_MS = 400_000

abbrev pub WINDOW_OVER_MS : ℕ
WINDOW_OVER_MS = 400_001

abbrev pub TWO_DAYS_LATE_MS : ℕ
TWO_DAYS_LATE_MS = 173_200_000

-- a signer accepts a receipt, disputes it with a reason, and without one
abbrev pub accepts_at : ℕ → ℕ → ℕ → ℕ → Submission
accepts_at now signer nonce number = sub REPLY 0b0101 now signer nonce now (now + 1_000) number 0 0 0

abbrev pub disputes_at : ℕ → ℕ → ℕ → ℕ → Submission
disputes_at now signer nonce number = sub REPLY 0b1001 now signer nonce now (now + 1_000) number 0 0 0

abbrev pub disputes_bare : ℕ → ℕ → ℕ → ℕ → Submission
disputes_bare now signer nonce number = sub REPLY 0b0001 now signer nonce now (now + 1_000) number 0 0 0

-- ---- Request 6: closed wallets

-- an admin, 1, closes a wallet at a time; at 1,000; and wallet 7 at 1,000, with these flags
abbrev pub closes_at : ℕ → ℕ → ℕ → Submission
closes_at now nonce target = sub CLOSE 0b0011 now 1 nonce now (now + 1_000) target 0 0 0

abbrev pub closes : ℕ → ℕ → Submission
closes nonce target = closes_at 1_000 nonce target

abbrev pub closes_with : ℕ → Submission
closes_with flags = sub CLOSE flags 1_000 1 2 1_000 2_000 7 0 0 0

-- behind P1: 7 pays all that it has to 8, and is closed
abbrev pub emptied : Step
emptied = leaves (transfers 50_000_000) 0 0 (has 7 0 0 ∷ has 8 50_000_000 0 ∷ [])

abbrev pub shut_7 : Step
shut_7 = leaves (closes 2 7) 0 0 (has 7 0 0 ∷ has 8 50_000_000 0 ∷ [])

-- at 1,000: a payment, a claim without a link, and an admin's freeze or unfreeze, by its flags
abbrev pub pays_by : ℕ → ℕ → ℕ → ℕ → Submission
pays_by signer nonce target amount = sub TRANSFER 0b0001 1_000 signer nonce 1_000 2_000 target amount 0 0

abbrev pub claims_by : ℕ → ℕ → ℕ → Submission
claims_by signer nonce target = sub CLAIM 0b0001 1_000 signer nonce 1_000 2_000 target 0 400_000 0

abbrev pub freezes : ℕ → ℕ → ℕ → Submission
freezes flags nonce target = sub FREEZE flags 1_000 1 nonce 1_000 2_000 target 0 0 0

-- the tables after P1, `emptied` and `shut_7`: two wallets, the first with 2 for its frozen word, and three journal rows
abbrev pub shut_tables : Ledger
shut_tables =
    ledger (1 ∷ 0 ∷ 1_000 ∷ 50_000_000 ∷ 2 ∷ 0 ∷ 0 ∷ 3 ∷ [])
    ((7 ∷ 0 ∷ 0 ∷ 2 ∷ DEFAULT_TX_CAP_MICRO ∷ DEFAULT_DAILY_CAP_MICRO ∷ 8 ∷ 50_000_000 ∷ 0 ∷ 0 ∷ DEFAULT_TX_CAP_MICRO ∷ DEFAULT_DAILY_CAP_MICRO ∷ [])
    ++ replicate 12 ODD_WORD)
    tables.escrows tables.receipts
    ((1 ∷ 1 ∷ GRANT ∷ 7 ∷ 50_000_000 ∷ 1_000 ∷ 0 ∷ 0 ∷ 7 ∷ 5 ∷ TRANSFER ∷ 8 ∷ 50_000_000 ∷ 1_000 ∷ 0 ∷ 0 ∷ 1 ∷ 2 ∷ CLOSE ∷ 7 ∷ 0 ∷ 1_000 ∷ 0 ∷ 0 ∷ [])
    ++ replicate 40 ODD_WORD)

-- ---- Request 7: one reply to a claim

-- 7 replies to a receipt at 2,000, with these flags; and an operation 8 of the same words
abbrev pub replies_with : ℕ → ℕ → ℕ → Submission
replies_with flags nonce number = sub REPLY flags 2_000 7 nonce 2_000 3_000 number 0 0 0

abbrev pub eighth_with : ℕ → ℕ → ℕ → Submission
eighth_with flags nonce number = sub OLD_DISPUTE flags 2_000 7 nonce 2_000 3_000 number 0 0 0

-- the tables after P1, P2, two claims on escrow 1, the accept of the first and the dispute of the second: the journal has operation 7 for both
abbrev pub replied_tables : Ledger
replied_tables =
    ledger (1 ∷ 0 ∷ 2_000 ∷ 50_000_000 ∷ 2 ∷ 1 ∷ 2 ∷ 6 ∷ [])
    ((7 ∷ 30_000_000 ∷ 0 ∷ 0 ∷ DEFAULT_TX_CAP_MICRO ∷ DEFAULT_DAILY_CAP_MICRO ∷ 8 ∷ 20_000_000 ∷ 0 ∷ 0 ∷ DEFAULT_TX_CAP_MICRO ∷ DEFAULT_DAILY_CAP_MICRO ∷ [])
    ++ replicate 12 ODD_WORD)
    ((7 ∷ 8 ∷ 20_000_000 ∷ 501_000 ∷ RELEASED ∷ 1_000 ∷ 2_000 ∷ 7 ∷ []) ++ replicate 24 ODD_WORD)
    ((8 ∷ 7 ∷ 1 ∷ 400_000 ∷ 0 ∷ ACCEPTED ∷ 1_000 ∷ 2_000 ∷ 7 ∷ 0 ∷ 0 ∷ 0 ∷ 0 ∷ 0 ∷ [])
    ++ ((8 ∷ 7 ∷ 1 ∷ 400_000 ∷ 0 ∷ DISPUTED ∷ 1_000 ∷ 2_000 ∷ 7 ∷ 0 ∷ 0 ∷ 0 ∷ 0 ∷ 0 ∷ []) ++ replicate 28 ODD_WORD))
    ((1 ∷ 1 ∷ GRANT ∷ 7 ∷ 50_000_000 ∷ 1_000 ∷ 0 ∷ 0 ∷ 7 ∷ 1 ∷ OPEN ∷ 8 ∷ 20_000_000 ∷ 1_000 ∷ 1 ∷ 0 ∷ [])
    ++ ((8 ∷ 1 ∷ CLAIM ∷ 7 ∷ 0 ∷ 1_000 ∷ 1 ∷ 1 ∷ 8 ∷ 2 ∷ CLAIM ∷ 7 ∷ 0 ∷ 1_000 ∷ 2 ∷ 1 ∷ [])
    ++ ((7 ∷ 2 ∷ 7 ∷ 1 ∷ 0 ∷ 2_000 ∷ 1 ∷ 0 ∷ 7 ∷ 3 ∷ 7 ∷ 2 ∷ 0 ∷ 2_000 ∷ 0 ∷ 0 ∷ []) ++ replicate 16 ODD_WORD)))

-- an entry of a recording, and with operation 0
abbrev pub answered : Submission → ℕ → ℕ → Entry
answered s number word = as_entry (encode s) number word

abbrev pub struck : Entry → Entry
struck e = as_entry (set e.bytes OPERATION_AT 0) e.number e.word
