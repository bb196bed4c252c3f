-- Laws of the daily sum, and of the checks of a grant and of a payment.
pub mod Whole
pub mod Recipient
pub mod Grant
pub mod Paying
