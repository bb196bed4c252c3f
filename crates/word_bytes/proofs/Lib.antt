-- Laws that the stores of words rest on.
pub mod Stores
