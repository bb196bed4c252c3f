-- Laws of the journal's search and of the checks on the envelope.
pub mod Search
pub mod Envelope
