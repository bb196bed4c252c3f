-- What the grid and its figures rest on.
pub mod Laws
