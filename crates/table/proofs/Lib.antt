pub mod Laws
pub mod Columns
pub mod Front
pub mod Alone
