-- Laws of the index.
pub mod Every
pub mod Laws
pub mod Walks
