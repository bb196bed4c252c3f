-- Laws that the replay rests on; that each contract permits one answer; and that every run with replays in it meets the demands.
pub mod Afresh
pub mod Entries
pub mod Sole
pub mod Surface
