-- Laws of one row, and of the rows read so far.
pub mod Row
pub mod Sofar
