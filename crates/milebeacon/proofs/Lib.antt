-- That each contract permits one answer; and that every run of the entry points meets the demands.
pub mod Sole
pub mod Surface
