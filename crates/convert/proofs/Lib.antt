-- What the code rests on, and that its contract permits one answer; and the promises of `rules` specs/Converted: what converting keeps, one converted record, and a converted recording.
pub mod Turned
pub mod Sole
pub mod Entries
pub mod Apart
pub mod Journals
pub mod Forms
pub mod Settles
pub mod Replays
pub mod Calls
