-- What is left to check of a claim whose parties are live.
pub mod Terms
