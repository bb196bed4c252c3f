-- That each contract permits one answer; and that every run of the public calls meets the demands.
pub mod Sole
pub mod Surface
