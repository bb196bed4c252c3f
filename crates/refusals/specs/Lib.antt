-- What the checks are given.
pub mod Checkable
