-- Laws of the passes.
pub mod Totals
pub mod Holds
pub mod Parties
pub mod Counted
pub mod Whole
