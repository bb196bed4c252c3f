-- Laws of the definitions, and the theorems. A reader who trusts the checker need not open them.
pub mod Bools
pub mod Rows
pub mod UpTo
pub mod Counts
pub mod Seek
pub mod Wallets
-- the named lists of tests, as facts by name
pub mod Tests
pub mod Formed
-- numbers as bytes, and the record read back
pub mod Below
pub mod Le
pub mod Codec
-- credits, a good ledger, and the simulation of the books
pub mod Accounts
pub mod LookUp
pub mod Moves
pub mod Good
pub mod Ends
pub mod Stays
pub mod Ensured
pub mod Agree
pub mod InStep
pub mod Changes
pub mod Operations
pub mod Cases
-- the refusals, the replay guard, the sweep, and that sound stays
pub mod Refused
pub mod Numbers
pub mod Decoded
pub mod Calls
pub mod Places
pub mod Demand12
pub mod Keeps
pub mod Lengths
pub mod ReplayGuard
pub mod Cap
pub mod Turns
pub mod SweepPlan
pub mod Passed
pub mod Late
pub mod GoodRows
pub mod SoundStays
pub mod SoundParts
pub mod SoundAlways
pub mod Shut
pub mod ShutStays
pub mod Closed
pub mod Ready
pub mod Books
pub mod Window
-- recordings: an entry further; header and written rows alone decide
pub mod Through
pub mod SameTables
pub mod SameReads
pub mod SameSound
pub mod SameRefusals
pub mod SameMoves
pub mod SameSettle
pub mod Words
pub mod Entries
pub mod Recordings
-- the month's report: the grid, what is named, the entries that are read, a recording, a month; that no figure passes 2^64 - 1; escrows from one
-- ledger to the next, what each operation adds, and that the figures fit the books
pub mod Grid
pub mod Past
pub mod Tallies
pub mod Month
pub mod Reply
pub mod Bounded
pub mod Onward
pub mod Ended
pub mod Adds
pub mod Held
pub mod Fits
-- from the code to the demands: one call, and runs of calls
pub mod Heard
pub mod Replays
pub mod Reports
pub mod Convert
pub mod Results
pub mod Runs
pub mod Recorded
pub mod Sole
