-- What the daily sum is given of a journal, what is left to check of a live sender, and what the recipient's wallet decides.
pub mod Entries
pub mod Sending
pub mod Recipient
