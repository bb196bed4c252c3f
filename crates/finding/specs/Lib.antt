-- The wallets that a record names.
pub mod Parties
