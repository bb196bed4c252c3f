-- Section "Checked cases": P1 to P12 as one table, and the cases of the change requests behind them. What a case is, and when it holds, is said in
-- Trials.antt; CaseSteps.antt has the steps by name.
use Rattle.std.specs.Prelude.{List, [], ◌∷◌, ◌+◌, ◌-◌, replicate, take}
use Rattle.rules.specs.Limits.{MAX_AMOUNT_MICRO, MAX_HOLD_MS, MARK_0, NOT_REPLAYED, CUT_SHORT, DISAGREES, LAST_FIGURE, RELEASE, REFUND, SWEEP}
use Rattle.rules.specs.Ledger.{set_journal, fresh}
use Rattle.rules.specs.Recording.{entry_bytes}
use Rattle.rules.specs.Replay.{answer, verdict}
use Rattle.rules.specs.Report.{report_of, blank_report}
use Rattle.rules.specs.Trials.{replays, reports, Case, ODD_WORD, tables, sub, case, step, leaves, has, entry, entry_as, recorded, added, added_leaving, counted, reported_from, converts_to}
use Rattle.rules.specs.CaseSteps.{P1, opening, P2, P3, releases, P4, transfers, enveloped, opens, claims, accepts, sweeps, all_agree, capped, grants_8, holds_by, DAY_ENDS_MS, DAY_OVER_MS, transfers_1, opens_1}
use Rattle.rules.specs.CaseSteps.{sent, unmarked, bare, refunds_2000, releases_2000, sweeps_at, claims_auto, brought, NONE_YET, NOTHING_NAMED, pays_1, again, grants_1}
use Rattle.rules.specs.CaseSteps.{WINDOW_ENDS_MS, WINDOW_OVER_MS, TWO_DAYS_LATE_MS, accepts_at, disputes_at, disputes_bare}
use Rattle.rules.specs.CaseSteps.{closes_at, closes, closes_with, emptied, shut_7, pays_by, claims_by, freezes, shut_tables}
use Rattle.rules.specs.CaseSteps.{replies_with, eighth_with, replied_tables, answered, struck}

-- THE TABLE
abbrev pub cases : List Case
cases =
    case 1 (P1 ∷ [])
    ∷ case 2 (P1 ∷ P2 ∷ [])
    ∷ case 3 (P1 ∷ P2 ∷ P3 ∷ [])
    ∷ case 4 (P1 ∷ P2 ∷ P4 ∷ [])
    ∷ case 5 (P1 ∷ P2 ∷ leaves (releases 501_001 2) 29 0 (has 8 0 0 ∷ []) ∷ [])
    ∷ case 6 (P1 ∷ P2 ∷ P4 ∷ leaves (releases 501_000 3) 29 0 (has 8 20_000_000 0 ∷ []) ∷ [])
    ∷ case 7 (P1 ∷ step (transfers 0) 12 0 ∷ step (transfers MAX_AMOUNT_MICRO) 17 0 ∷ step (transfers (MAX_AMOUNT_MICRO + 1)) 12 0 ∷ [])
    ∷ case 8 (step (enveloped 130_001 140_000) 8 0 ∷ step (enveloped 130_000 140_000) 0 0 ∷ [])
    ∷ case 9 (step (enveloped 100_000 3_700_001) 10 0 ∷ step (enveloped 100_000 3_700_000) 0 0 ∷ [])
    ∷ case 10
    (P1 ∷ step (opens 2 1_000) 20 0 ∷ step (opens 2 (1_000 + MAX_HOLD_MS + 1)) 21 0 ∷ step (opens 2 1_001) 0 1
    ∷ step (opens 3 (1_000 + MAX_HOLD_MS)) 0 2 ∷ [])
    ∷ case 11
    (P1 ∷ P2 ∷ step (claims 1) 0 1 ∷ step (claims 2) 0 2 ∷ step (accepts 2 1) 0 1
    ∷ record {
      submission = accepts 3 2;
      number = 0;
      word = 0;
      has = has 7 30_000_000 0 ∷ has 8 20_000_000 0 ∷ [];
      codes = record { number = 1; code = 0 } ∷ record { number = 2; code = 29 } ∷ [];
    }
    ∷ [])
    ∷ case 12
    (P1 ∷ step (opens 2 2_000) 0 1 ∷ step (opens 3 2_000) 0 2 ∷ step sweeps 0 1 ∷ step sweeps 0 1
    ∷ leaves sweeps 0 0 (has 7 50_000_000 0 ∷ []) ∷ [])
    -- all agree, the retry too; none is all of none
    ∷ recorded 101 (entry P1 ∷ entry P2 ∷ entry P3 ∷ []) [] (all_agree 3) (has 7 30_000_000 20_000_000 ∷ has 8 0 0 ∷ [])
    ∷ recorded 102 [] [] (all_agree 0) []
    -- the retry recorded as a second hold; another word; an answer that there is not: found at that entry, which has been replayed
    ∷ recorded 103 (entry P1 ∷ entry P2 ∷ entry_as P3 0 2 ∷ []) [] (verdict 0 DISAGREES 3 (answer 0 2) (answer 11 0)) (has 7 30_000_000 20_000_000 ∷ [])
    ∷ recorded 104 (entry P1 ∷ entry_as P2 0 2 ∷ entry P4 ∷ []) [] (verdict 0 DISAGREES 2 (answer 0 2) (answer 0 1)) (has 7 30_000_000 20_000_000 ∷ [])
    ∷ recorded 105 (entry_as P1 255 0 ∷ []) [] (verdict 0 DISAGREES 1 (answer 255 0) (answer 0 0)) (has 7 50_000_000 0 ∷ [])
    -- one byte of an entry, and all but one; a disagreement before the cut
    ∷ recorded 106 (entry P1 ∷ []) (MARK_0 ∷ []) (verdict 0 CUT_SHORT 1 (answer 0 0) (answer 0 0)) (has 7 50_000_000 0 ∷ [])
    ∷ recorded 107 (entry P1 ∷ []) (take 116 (entry_bytes (entry P2))) (verdict 0 CUT_SHORT 1 (answer 0 0) (answer 0 0)) (has 7 50_000_000 0 ∷ [])
    ∷ recorded 108 (entry_as P1 0 1 ∷ []) (MARK_0 ∷ []) (verdict 0 DISAGREES 1 (answer 0 1) (answer 0 0)) (has 7 50_000_000 0 ∷ [])
    -- a journal with a word too many
    ∷ record {
      label = 109;
      trial = replays (record {
        on = set_journal (replicate 65 ODD_WORD) tables;
        entries = entry P1 ∷ [];
        rest = [];
        verdict = verdict 1 NOT_REPLAYED 0 (answer 0 0) (answer 0 0);
        has = [];
      });
    }
    -- the retry recorded as refused, with a word
    ∷ recorded 110 (entry P1 ∷ entry P2 ∷ entry_as P3 11 1 ∷ []) [] (verdict 0 DISAGREES 3 (answer 11 1) (answer 11 0)) (has 7 30_000_000 20_000_000 ∷ [])
    -- a hold counts for 24 hours and not a millisecond longer: a transfer after it, and a hold after it
    ∷ case 201
    (P1 ∷ capped 1 ∷ P2 ∷ step (transfers_1 DAY_ENDS_MS) 19 0
    ∷ leaves (transfers_1 DAY_OVER_MS) 0 0 (has 7 29_999_999 20_000_000 ∷ has 8 1 0 ∷ []) ∷ [])
    ∷ case 202
    (P1 ∷ capped 1 ∷ P2 ∷ step (opens_1 DAY_ENDS_MS) 19 0
    ∷ leaves (opens_1 DAY_OVER_MS) 0 2 (has 7 29_999_999 20_000_001 ∷ []) ∷ [])
    -- three holds, refunded, released and expired in between, still count
    ∷ case 203
    (P1 ∷ capped 1 ∷ step (holds_by 7 3 8 8_000_000) 0 1 ∷ step (holds_by 7 4 8 7_000_000) 0 2 ∷ step (holds_by 7 5 8 5_000_000) 0 3
    ∷ step (sub REFUND 0b0001 2_000 7 6 2_000 3_000 1 0 0 0) 0 0
    ∷ step (sub RELEASE 0b0001 2_000 7 7 2_000 3_000 2 0 0 0) 0 0
    ∷ leaves (sub SWEEP 0 501_001 0 0 0 0 0 1 0 0) 0 1 (has 7 43_000_000 0 ∷ has 8 7_000_000 0 ∷ [])
    ∷ step (transfers_1 DAY_ENDS_MS) 19 0 ∷ step (transfers_1 DAY_OVER_MS) 0 0 ∷ [])
    -- a transfer counts as before
    ∷ case 204
    (P1 ∷ capped 1 ∷ step (transfers 20_000_000) 0 0 ∷ step (transfers_1 DAY_ENDS_MS) 19 0 ∷ step (opens_1 DAY_ENDS_MS) 19 0
    ∷ step (transfers_1 DAY_OVER_MS) 0 0 ∷ [])
    -- another signer's holds do not
    ∷ case 205
    (P1 ∷ capped 1 ∷ grants_8 1 ∷ step (holds_by 8 1 7 20_000_000) 0 1 ∷ step (transfers 20_000_000) 0 0 ∷ step (transfers_1 DAY_ENDS_MS) 19 0 ∷ [])
    -- nor do the signer's own rows of other operations, though caps and a grant have an amount; a hold and a transfer may come to just the cap
    ∷ case 206
    (P1 ∷ capped 7 ∷ grants_8 7 ∷ step (holds_by 7 4 8 12_000_000) 0 1 ∷ step (transfers 8_000_001) 19 0 ∷ step (transfers 8_000_000) 0 0 ∷ [])
    -- P1, P2 and the retry P3; and with other recorded answers and words
    ∷ reported_from 301 blank_report (added (entry P1 ∷ entry P2 ∷ entry P3 ∷ []) 3 (has 7 30_000_000 20_000_000 ∷ has 8 0 0 ∷ []) ∷ [])
    (counted 1 0 1 ∷ counted 3 0 1 ∷ counted 3 11 1 ∷ []) (50_000_000 ∷ 0 ∷ 0 ∷ 0 ∷ 0 ∷ []) NOTHING_NAMED
    ∷ reported_from 302 blank_report
    (added (entry_as P1 255 0 ∷ entry_as P2 11 7 ∷ entry_as P3 0 2 ∷ []) 3 (has 7 30_000_000 20_000_000 ∷ has 8 0 0 ∷ []) ∷ [])
    (counted 1 0 1 ∷ counted 3 0 1 ∷ counted 3 11 1 ∷ []) (50_000_000 ∷ 0 ∷ 0 ∷ 0 ∷ 0 ∷ []) NOTHING_NAMED
    -- an entry cut short is not counted
    ∷ reported_from 303 blank_report
    (record { entries = entry P1 ∷ []; rest = take 116 (entry_bytes (entry P2)); number = 0; read = 1; has = has 7 50_000_000 0 ∷ []; left = [] } ∷ [])
    (counted 1 0 1 ∷ []) (50_000_000 ∷ 0 ∷ 0 ∷ 0 ∷ 0 ∷ []) NOTHING_NAMED
    -- two recordings, the second on the tables that the first left: P1 and P2 settle again
    ∷ reported_from 304 blank_report
    (added (entry P1 ∷ entry P2 ∷ entry P4 ∷ []) 3 (has 7 30_000_000 0 ∷ has 8 20_000_000 0 ∷ [])
    ∷ added (entry P1 ∷ entry P2 ∷ []) 2 (has 7 30_000_000 20_000_000 ∷ has 8 0 0 ∷ []) ∷ [])
    (counted 1 0 2 ∷ counted 3 0 2 ∷ counted 4 0 1 ∷ []) (100_000_000 ∷ 0 ∷ 20_000_000 ∷ 0 ∷ 0 ∷ []) NOTHING_NAMED
    -- malformed: a wrong mark with an operation's byte, a grant's amount too; and bytes that are no operation's
    ∷ reported_from 305 blank_report
    (added (unmarked P1.submission ∷ unmarked opening ∷ unmarked (bare 11) ∷ sent (bare 0) ∷ sent (bare 13) ∷ []) 5 [] ∷ [])
    (counted 1 3 1 ∷ counted 3 3 1 ∷ counted 11 3 1 ∷ counted 0 3 2 ∷ []) NONE_YET NOTHING_NAMED
    -- transferred by a transfer that settled, refunded by a refund, released by a release, expired by a sweep
    ∷ reported_from 306 blank_report
    (added
    (entry P1 ∷ sent (transfers MAX_AMOUNT_MICRO) ∷ sent (transfers 3_000_000) ∷ sent (holds_by 7 2 8 8_000_000) ∷ sent (holds_by 7 3 8 7_000_000)
    ∷ sent (holds_by 7 4 8 5_000_000) ∷ sent (refunds_2000 6 1) ∷ sent (releases_2000 7 2) ∷ sent (sweeps_at 501_001 1) ∷ [])
    9 (has 7 40_000_000 0 ∷ has 8 10_000_000 0 ∷ []) ∷ [])
    (counted 1 0 1 ∷ counted 2 17 1 ∷ counted 2 0 1 ∷ counted 3 0 3 ∷ counted 5 0 1 ∷ counted 4 0 1 ∷ counted 9 0 1 ∷ [])
    (50_000_000 ∷ 3_000_000 ∷ 7_000_000 ∷ 8_000_000 ∷ 5_000_000 ∷ []) NOTHING_NAMED
    -- released by an accept, and once only
    ∷ reported_from 307 blank_report
    (added (entry P1 ∷ entry P2 ∷ sent (claims 1) ∷ sent (claims 2) ∷ sent (accepts 2 1) ∷ sent (accepts 3 2) ∷ []) 6
    (has 7 30_000_000 0 ∷ has 8 20_000_000 0 ∷ []) ∷ [])
    (counted 1 0 1 ∷ counted 3 0 1 ∷ counted 6 0 2 ∷ counted 7 0 2 ∷ []) (50_000_000 ∷ 0 ∷ 20_000_000 ∷ 0 ∷ 0 ∷ []) NOTHING_NAMED
    -- a sweep with limit 3: two receipts of one escrow, which is released once, and one of two stale escrows
    ∷ reported_from 308 blank_report
    (added
    (entry P1 ∷ entry P2 ∷ sent (opens 2 2_000) ∷ sent (opens 3 2_000) ∷ sent (claims_auto 1) ∷ sent (claims_auto 2) ∷ sent (sweeps_at 400_001 3) ∷ []) 7
    (has 7 29_000_000 1_000_000 ∷ has 8 20_000_000 0 ∷ []) ∷ [])
    (counted 1 0 1 ∷ counted 3 0 3 ∷ counted 6 0 2 ∷ counted 9 0 1 ∷ []) (50_000_000 ∷ 0 ∷ 20_000_000 ∷ 0 ∷ 1_000_000 ∷ []) NOTHING_NAMED
    -- P1's grant reaches 2^64 - 1; one more, and the report stops before it, and leaves the tables started afresh
    ∷ reported_from 309 (brought [] ((LAST_FIGURE - 50_000_000) ∷ 0 ∷ 0 ∷ 0 ∷ 0 ∷ [])) (added (entry P1 ∷ []) 1 (has 7 50_000_000 0 ∷ []) ∷ [])
    (counted 1 0 1 ∷ []) (LAST_FIGURE ∷ 0 ∷ 0 ∷ 0 ∷ 0 ∷ []) NOTHING_NAMED
    ∷ reported_from 310 (brought [] ((LAST_FIGURE - 49_999_999) ∷ 0 ∷ 0 ∷ 0 ∷ 0 ∷ []))
    (added_leaving (entry P1 ∷ []) 0 0 (fresh tables).left ∷ []) [] ((LAST_FIGURE - 49_999_999) ∷ 0 ∷ 0 ∷ 0 ∷ 0 ∷ []) (1 ∷ 1 ∷ 0 ∷ [])
    -- a cell reaches 2^64 - 1; one that is there already stops the report before P2, which is not applied, nor is P3, nor a recording added later
    ∷ reported_from 311 (brought (counted 1 0 (LAST_FIGURE - 1) ∷ []) NONE_YET) (added (entry P1 ∷ []) 1 [] ∷ [])
    (counted 1 0 1 ∷ []) (50_000_000 ∷ 0 ∷ 0 ∷ 0 ∷ 0 ∷ []) NOTHING_NAMED
    ∷ reported_from 312 (brought (counted 3 0 LAST_FIGURE ∷ []) NONE_YET)
    (added (entry P1 ∷ entry P2 ∷ entry P3 ∷ []) 1 (has 7 50_000_000 0 ∷ []) ∷ added (entry P1 ∷ entry P1 ∷ []) 0 (has 7 50_000_000 0 ∷ []) ∷ [])
    (counted 1 0 1 ∷ []) (50_000_000 ∷ 0 ∷ 0 ∷ 0 ∷ 0 ∷ []) (6 ∷ 3 ∷ 0 ∷ [])
    -- of a figure and a cell the figure is named; of released and expired, that a sweep would pass at once, released
    ∷ reported_from 313 (brought (counted 1 0 LAST_FIGURE ∷ []) (LAST_FIGURE ∷ 0 ∷ 0 ∷ 0 ∷ 0 ∷ []))
    (added_leaving (entry P1 ∷ []) 0 0 (fresh tables).left ∷ []) [] (LAST_FIGURE ∷ 0 ∷ 0 ∷ 0 ∷ 0 ∷ []) (1 ∷ 1 ∷ 0 ∷ [])
    ∷ reported_from 314 (brought [] (0 ∷ 0 ∷ LAST_FIGURE ∷ 0 ∷ LAST_FIGURE ∷ []))
    (added (entry P1 ∷ entry P2 ∷ sent (opens 2 2_000) ∷ sent (claims_auto 1) ∷ sent (sweeps_at 400_001 2) ∷ []) 4 (has 7 29_000_000 21_000_000 ∷ has 8 0 0 ∷ []) ∷ [])
    (counted 1 0 1 ∷ counted 3 0 2 ∷ counted 6 0 1 ∷ []) (50_000_000 ∷ 0 ∷ LAST_FIGURE ∷ 0 ∷ LAST_FIGURE ∷ []) (3 ∷ 9 ∷ 0 ∷ [])
    -- a report that has named a figure stays as it is, and so do the tables lent
    ∷ reported_from 315 (report_of blank_report.grid NONE_YET (2 ∷ 2 ∷ 0 ∷ [])) (added_leaving (entry P1 ∷ []) 0 0 tables ∷ []) [] NONE_YET (2 ∷ 2 ∷ 0 ∷ [])
    -- a journal with a word too many
    ∷ record {
      label = 316;
      trial = reports (record {
        before = blank_report;
        on = set_journal (replicate 65 ODD_WORD) tables;
        adds = added_leaving (entry P1 ∷ []) 1 0 (set_journal (replicate 65 ODD_WORD) tables) ∷ [];
        cells = [];
        figures = NONE_YET;
        named = NOTHING_NAMED;
      });
    }
    -- a full journal: one of one row
    ∷ record {
      label = 317;
      trial = reports (record {
        before = blank_report;
        on = set_journal (replicate 8 ODD_WORD) tables;
        adds = added (entry P1 ∷ entry P2 ∷ []) 2 (has 7 50_000_000 0 ∷ []) ∷ [];
        cells = counted 1 0 1 ∷ counted 3 40 1 ∷ [];
        figures = 50_000_000 ∷ 0 ∷ 0 ∷ 0 ∷ 0 ∷ [];
        named = NOTHING_NAMED;
      });
    }
    -- a full journal: each of its rows is seen, from the newest to the oldest; a nonce that is in none of them is not, nor is the newest row's nonce of
    -- another signer
    ∷ case 401
    (P1 ∷ P2 ∷ pays_1 2 0 ∷ pays_1 3 0 ∷ pays_1 4 0 ∷ pays_1 5 0 ∷ pays_1 6 0 ∷ pays_1 7 0
    ∷ pays_1 7 11 ∷ pays_1 6 11 ∷ pays_1 5 11 ∷ pays_1 4 11 ∷ pays_1 3 11 ∷ pays_1 2 11 ∷ again P2 ∷ again P1
    ∷ pays_1 8 40 ∷ grants_1 1 7 40 ∷ [])
    -- rows that are not written have this signer and nonce in every word, and are not looked at
    ∷ case 402 (grants_1 ODD_WORD ODD_WORD 0 ∷ grants_1 ODD_WORD ODD_WORD 11 ∷ [])
    -- a reply one millisecond after the acceptance deadline is refused and uses up no nonce, and at the deadline it settles: an accept, and a dispute
    ∷ case 501
    (P1 ∷ P2 ∷ step (claims 1) 0 1 ∷ leaves (accepts_at WINDOW_OVER_MS 7 2 1) 41 0 (has 7 30_000_000 20_000_000 ∷ has 8 0 0 ∷ [])
    ∷ leaves (accepts_at WINDOW_ENDS_MS 7 2 1) 0 1 (has 7 30_000_000 0 ∷ has 8 20_000_000 0 ∷ []) ∷ [])
    ∷ case 502
    (P1 ∷ P2 ∷ step (claims 1) 0 1 ∷ step (disputes_at WINDOW_OVER_MS 7 2 1) 41 0
    ∷ leaves (disputes_at WINDOW_ENDS_MS 7 2 1) 0 0 (has 7 30_000_000 20_000_000 ∷ has 8 0 0 ∷ []) ∷ [])
    -- a closed receipt past its deadline: accepted, disputed, and expired by a sweep
    ∷ case 503
    (P1 ∷ P2 ∷ step (claims 1) 0 1 ∷ step (claims 2) 0 2 ∷ step (claims 3) 0 3 ∷ step (accepts_at WINDOW_ENDS_MS 7 2 1) 0 1
    ∷ step (disputes_at WINDOW_ENDS_MS 7 3 2) 0 0 ∷ step (sweeps_at WINDOW_OVER_MS 1) 0 1
    ∷ step (accepts_at WINDOW_OVER_MS 7 4 1) 34 0 ∷ step (disputes_at WINDOW_OVER_MS 7 4 1) 34 0
    ∷ step (accepts_at WINDOW_OVER_MS 7 4 2) 34 0 ∷ step (disputes_at WINDOW_OVER_MS 7 4 2) 34 0
    ∷ step (accepts_at WINDOW_OVER_MS 7 4 3) 34 0 ∷ step (disputes_bare WINDOW_OVER_MS 7 4 3) 34 0 ∷ [])
    -- a dispute without a reason, past the deadline and at it
    ∷ case 504
    (P1 ∷ P2 ∷ step (claims 1) 0 1 ∷ step (disputes_bare WINDOW_OVER_MS 7 2 1) 41 0 ∷ step (disputes_bare WINDOW_ENDS_MS 7 2 1) 35 0 ∷ [])
    -- past the deadline, by another signer; and of a receipt that there is not
    ∷ case 505
    (P1 ∷ P2 ∷ step (claims 1) 0 1 ∷ step (accepts_at WINDOW_OVER_MS 8 2 1) 33 0 ∷ step (disputes_bare WINDOW_OVER_MS 8 2 1) 33 0
    ∷ step (accepts_at WINDOW_OVER_MS 7 2 2) 32 0 ∷ step (disputes_at WINDOW_OVER_MS 7 2 0) 32 0 ∷ [])
    -- on a full journal
    ∷ case 506
    (P1 ∷ P2 ∷ step (claims 1) 0 1 ∷ pays_1 2 0 ∷ pays_1 3 0 ∷ pays_1 4 0 ∷ pays_1 5 0 ∷ pays_1 6 0
    ∷ step (disputes_at WINDOW_OVER_MS 7 8 1) 41 0 ∷ step (disputes_at WINDOW_ENDS_MS 7 8 1) 40 0 ∷ [])
    -- two days late: the skipper can no longer reply, and the sweep does what it would have done; a claim to be accepted by itself is, too late for its escrow
    ∷ case 507
    (P1 ∷ P2 ∷ step (claims 1) 0 1 ∷ step (claims_auto 2) 0 2 ∷ step (disputes_at TWO_DAYS_LATE_MS 7 2 1) 41 0
    ∷ step (accepts_at TWO_DAYS_LATE_MS 7 2 2) 41 0
    ∷ record {
      submission = sweeps_at TWO_DAYS_LATE_MS 3;
      number = 0;
      word = 3;
      has = has 7 50_000_000 0 ∷ has 8 0 0 ∷ [];
      codes = record { number = 1; code = 0 } ∷ record { number = 2; code = 29 } ∷ [];
    }
    ∷ [])
    -- the report's column 41
    ∷ reported_from 508 blank_report
    (added (entry P1 ∷ entry P2 ∷ sent (claims 1) ∷ sent (accepts_at WINDOW_OVER_MS 7 2 1) ∷ sent (disputes_at WINDOW_OVER_MS 7 2 1) ∷ []) 5
    (has 7 30_000_000 20_000_000 ∷ []) ∷ [])
    (counted 1 0 1 ∷ counted 3 0 1 ∷ counted 6 0 1 ∷ counted 7 41 2 ∷ []) (50_000_000 ∷ 0 ∷ 0 ∷ 0 ∷ 0 ∷ []) NOTHING_NAMED
    -- an empty wallet is closed, and whatever names it is refused then: a grant, a payment and a hold to it, a payment and a hold by it, a claim by it and
    -- one against it, freeze, unfreeze, caps, a second close
    ∷ case 601
    (P1 ∷ emptied ∷ shut_7 ∷ grants_1 1 9 43 ∷ step (pays_by 8 9 7 1) 43 0 ∷ step (holds_by 8 9 7 1) 43 0 ∷ pays_1 9 43 ∷ step (holds_by 7 9 8 1) 43 0
    ∷ step (claims_by 7 9 8) 43 0 ∷ step (claims_by 8 9 7) 43 0 ∷ step (freezes 0b0111 9 7) 43 0 ∷ step (freezes 0b0011 9 7) 43 0
    ∷ step (capped 3).submission 43 0 ∷ leaves (closes 9 7) 43 0 (has 7 0 0 ∷ has 8 50_000_000 0 ∷ []) ∷ [])
    -- 11, 12, 13 and 15 stand before 43: the close's retry; a closed wallet pays 0; 9, that has no wallet, pays it; it pays and claims on itself. 17 and
    -- 22 stand behind: 8 pays it more than it has, and 9 claims on it
    ∷ case 602
    (P1 ∷ emptied ∷ shut_7 ∷ again shut_7 ∷ step (pays_by 7 9 8 0) 12 0 ∷ step (pays_by 9 9 7 1) 13 0 ∷ step (pays_by 7 9 7 1) 15 0
    ∷ step (claims_by 7 9 7) 15 0 ∷ step (pays_by 8 9 7 50_000_001) 43 0 ∷ step (claims_by 9 9 7) 43 0 ∷ [])
    -- a frozen wallet may be closed, and while the system is frozen; then it is frozen no longer, and the system is no closed wallet
    ∷ case 603
    (P1 ∷ emptied ∷ step (freezes 0b0111 3 7) 0 0 ∷ pays_1 9 14 ∷ step (freezes 0b0111 4 0) 0 0 ∷ pays_1 9 5 ∷ shut_7
    ∷ step (freezes 0b0011 5 0) 0 0 ∷ pays_1 9 43 ∷ [])
    -- a wallet with balance; with locked credits and nothing else; with an open escrow to it and nothing else. Once that is released, the first closes, and
    -- the other has balance
    ∷ case 604
    (P1 ∷ step (closes 2 7) 42 0 ∷ leaves (holds_by 7 2 8 50_000_000) 0 1 (has 7 0 50_000_000 ∷ has 8 0 0 ∷ []) ∷ step (closes 2 7) 42 0
    ∷ step (closes 2 8) 42 0 ∷ step (releases_2000 3 1) 0 0 ∷ step (closes_at 2_000 2 7) 0 0 ∷ step (closes_at 2_000 3 8) 42 0 ∷ [])
    -- an open escrow to it, until it is refunded, whatever goes to another wallet; and a stale one, which is open until a sweep returns it
    ∷ case 605
    (P1 ∷ P2 ∷ step (holds_by 7 2 9 1_000_000) 0 2 ∷ step (closes 2 9) 42 0 ∷ step (refunds_2000 3 2) 0 0 ∷ step (closes_at 2_000 2 9) 0 0
    ∷ step (closes_at 501_001 3 8) 42 0 ∷ step (sweeps_at 501_001 1) 0 1 ∷ step (closes_at 501_001 3 8) 0 0 ∷ [])
    -- no target; a wallet that there is not; no signature; no admin; bit 2, and bit 3
    ∷ case 606
    (P1 ∷ step (closes 2 0) 16 0 ∷ step (closes 2 9) 16 0 ∷ step (closes_with 0b0010) 6 0 ∷ step (closes_with 0b0001) 7 0 ∷ step (closes_with 0b0111) 3 0
    ∷ step (closes_with 0b1011) 3 0 ∷ [])
    -- a closed wallet's id still signs an admin's grant and its reply to a claim
    ∷ case 607 (P1 ∷ emptied ∷ step (claims_by 8 1 7) 0 1 ∷ shut_7 ∷ grants_8 7 ∷ step (accepts_at 1_000 7 9 1) 0 0 ∷ [])
    -- an admin closes its own wallet, 1, and still signs; and receipt 1 is no wallet
    ∷ case 608
    (P1 ∷ step (pays_by 7 2 1 1) 0 0 ∷ step (pays_by 1 2 8 1) 0 0 ∷ step (closes 4 1) 0 0 ∷ grants_8 1 ∷ step (holds_by 7 3 8 1_000_000) 0 1
    ∷ step (claims 1) 0 1 ∷ step (accepts 4 1) 0 1 ∷ [])
    -- the report's last row and its last two columns; and the tables left: the close set one word and added one journal row, and no second wallet 7 was made
    ∷ reported_from 609 blank_report
    (added_leaving
    (entry P1 ∷ entry emptied ∷ sent (closes 3 8) ∷ entry shut_7 ∷ sent (closes 3 7) ∷ sent (closes_with 0b0111) ∷ entry (grants_1 1 9 43)
    ∷ entry (pays_1 9 43) ∷ []) 0 8 shut_tables ∷ [])
    (counted 1 0 1 ∷ counted 2 0 1 ∷ counted 12 42 1 ∷ counted 12 0 1 ∷ counted 12 43 1 ∷ counted 12 3 1 ∷ counted 1 43 1 ∷ counted 2 43 1 ∷ [])
    (50_000_000 ∷ 50_000_000 ∷ 0 ∷ 0 ∷ 0 ∷ []) NOTHING_NAMED
    -- bits 2 and 3 together, bit 1, and operation 8 with and without a reason are malformed; a dispute needs a reason, and an accept does not
    ∷ case 701
    (P1 ∷ P2 ∷ step (claims 1) 0 1 ∷ step (claims 2) 0 2 ∷ step (replies_with 0b1101 2 1) 3 0 ∷ step (replies_with 0b0011 2 1) 3 0
    ∷ step (eighth_with 0b1001 2 1) 3 0 ∷ step (eighth_with 0b0001 2 1) 3 0 ∷ step (replies_with 0b0001 2 1) 35 0
    ∷ leaves (replies_with 0b0101 2 1) 0 1 (has 7 30_000_000 0 ∷ has 8 20_000_000 0 ∷ [])
    ∷ leaves (replies_with 0b1001 3 2) 0 0 (has 7 30_000_000 0 ∷ has 8 20_000_000 0 ∷ []) ∷ [])
    -- both replies in the report's row 7, a malformed one too, and operation 8 in row 0; the tables left
    ∷ reported_from 702 blank_report
    (added_leaving
    (entry P1 ∷ entry P2 ∷ sent (claims 1) ∷ sent (claims 2) ∷ sent (replies_with 0b0101 2 1) ∷ sent (replies_with 0b1001 3 2) ∷ sent (replies_with 0b1101 4 2)
    ∷ sent (eighth_with 0b1001 4 2) ∷ []) 0 8 replied_tables ∷ [])
    (counted 1 0 1 ∷ counted 3 0 1 ∷ counted 6 0 2 ∷ counted 7 0 2 ∷ counted 7 3 1 ∷ counted 0 3 1 ∷ []) (50_000_000 ∷ 0 ∷ 20_000_000 ∷ 0 ∷ 0 ∷ []) NOTHING_NAMED
    -- an old recording that agrees: an accept gets bit 2; disputes become operation 7, one of them without a reason; what was malformed, 7 with bit 2 and 8
    -- with bit 2 too, gets operation 0; a close stays, and so do the answers and the piece of an entry behind them
    ∷ converts_to 703
    (entry P1 ∷ entry P2 ∷ answered (claims 1) 0 1 ∷ answered (claims 2) 0 2 ∷ answered (replies_with 0b0101 2 1) 3 0 ∷ answered (eighth_with 0b1101 2 1) 3 0
    ∷ answered (replies_with 0b0001 2 1) 0 1 ∷ answered (eighth_with 0b0001 3 2) 35 0 ∷ answered (eighth_with 0b1001 3 2) 0 0 ∷ unmarked (replies_with 0b0001 4 1)
    ∷ answered (closes_at 2_000 2 7) 42 0 ∷ [])
    (take 108 (entry_bytes (answered (eighth_with 0b1001 5 2) 34 0)))
    (entry P1 ∷ entry P2 ∷ answered (claims 1) 0 1 ∷ answered (claims 2) 0 2 ∷ struck (answered (replies_with 0b0101 2 1) 3 0)
    ∷ struck (answered (eighth_with 0b1101 2 1) 3 0)
    ∷ answered (replies_with 0b0101 2 1) 0 1 ∷ answered (replies_with 0b0001 3 2) 35 0 ∷ answered (replies_with 0b1001 3 2) 0 0
    ∷ struck (unmarked (replies_with 0b0001 4 1)) ∷ answered (closes_at 2_000 2 7) 42 0 ∷ [])
    (verdict 0 CUT_SHORT 11 (answer 0 0) (answer 0 0))
    -- and one that does not: at the same entry, with the same two answers
    ∷ converts_to 704 (entry P1 ∷ entry P2 ∷ answered (claims 1) 0 1 ∷ answered (eighth_with 0b1001 2 1) 0 1 ∷ []) []
    (entry P1 ∷ entry P2 ∷ answered (claims 1) 0 1 ∷ answered (replies_with 0b1001 2 1) 0 1 ∷ [])
    (verdict 0 DISAGREES 4 (answer 0 1) (answer 0 0))
    ∷ []
