-- Laws that the report rests on; that its contract permits one answer; and that every run with reports in it meets the demands.
pub mod Afresh
pub mod Laws
pub mod Sole
pub mod Surface
