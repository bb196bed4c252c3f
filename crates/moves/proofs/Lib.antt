-- The steps of each move over plain values, which the proofs of the functions cite.
pub mod Wallets
pub mod Ends
pub mod Accepts
pub mod Bounds
