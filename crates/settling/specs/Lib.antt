-- What settling's contracts cite.
pub mod Needs
