pub mod Types
pub mod Table
pub mod Head
pub mod Refusals
