-- Laws that the reader and the writer rest on; and that each contract permits one answer.
pub mod Uses
pub mod Whole
pub mod Back
pub mod Sole
