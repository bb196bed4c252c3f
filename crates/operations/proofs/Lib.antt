-- The steps of each operation over plain values, which the proofs of the functions cite.
pub mod Live
pub mod Made
pub mod Pays
pub mod Sets
pub mod Replies
