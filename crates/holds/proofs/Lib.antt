-- Laws of the three groups of checks.
pub mod Closing
pub mod Claim
pub mod Reply
