-- What is known of the written rows of a sound ledger's journal.
use Rattle.std.specs.Prelude.{◌≡◌, List, true, ℕ, ◌*◌, ◌≤◌, ◌<◌, length}
use Rattle.rules.specs.Limits.{JOURNAL_LEN, MAX_ENTRIES, MAX_AMOUNT_MICRO, LAST_TIME_MS, OPERATION, ENTRY_AMOUNT, SETTLED_AT}
use Rattle.rules.specs.Table.{word}
use Rattle.rules.specs.Refusals.{one_of, paying}

-- n journal rows are in their table, each settled at a time, each transfer and each open of an amount
pub record Entries (j : List ℕ) (n : ℕ) : Type 0 where
  pub fit : n * JOURNAL_LEN ≤ length j
  pub few : n ≤ MAX_ENTRIES
  pub times : (i : ℕ) → i < n → word j JOURNAL_LEN i SETTLED_AT ≤ LAST_TIME_MS
  pub amounts : (i : ℕ) → i < n → one_of paying (word j JOURNAL_LEN i OPERATION) ≡ true → word j JOURNAL_LEN i ENTRY_AMOUNT ≤ MAX_AMOUNT_MICRO
