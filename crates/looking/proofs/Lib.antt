-- Laws that the lookups rest on.
pub mod Parts
