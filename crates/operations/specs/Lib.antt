-- What the operations' contracts cite.
pub mod Needs
