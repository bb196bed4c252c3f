-- What the sweep's contracts cite.
pub mod Needs
