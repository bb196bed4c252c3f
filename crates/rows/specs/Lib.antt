-- What the contracts of rows say beyond the definitions of rules.
pub mod Part
pub mod Numbered
