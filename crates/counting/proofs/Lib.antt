-- Laws that the counting of an entry rests on.
pub mod Laws
