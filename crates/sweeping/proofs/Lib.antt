-- The turns and the loops of a sweep over plain values, which the proofs of the functions cite.
pub mod Turns
pub mod Receipts
pub mod Escrows
