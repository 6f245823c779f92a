pub mod Slices
pub mod Listing
pub mod Checking
pub mod InOrder
pub mod Advancing
pub mod Cut
