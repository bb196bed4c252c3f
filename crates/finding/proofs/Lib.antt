-- Laws about the wallets that a record names.
pub mod Laws
