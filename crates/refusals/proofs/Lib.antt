-- Laws of what the checks are given, of the groups that stand here, and of their order.
pub mod Given
pub mod Others
pub mod OpenTo
pub mod Order
