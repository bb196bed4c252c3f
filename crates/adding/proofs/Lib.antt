-- A sweep that is laid out and not made, over plain values, which the proofs of the functions cite.
pub mod Freed
pub mod Counted
pub mod Laid
pub mod Receipts
pub mod Spent
pub mod Escrows
pub mod Figures
