-- Laws that the calls rest on.
pub mod Starts
pub mod Submits
