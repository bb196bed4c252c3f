-- What the moves' contracts cite.
pub mod Needs
