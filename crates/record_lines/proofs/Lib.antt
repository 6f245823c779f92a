pub mod Laws
pub mod Filling
