-- What the functions of this crate speak of.
pub mod Named
