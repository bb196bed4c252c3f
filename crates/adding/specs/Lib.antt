-- What the contracts of adding cite.
pub mod Needs
pub mod Turns
