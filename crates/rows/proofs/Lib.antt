-- Laws that the functions over rows rest on.
pub mod Laws
pub mod Part
pub mod Found
