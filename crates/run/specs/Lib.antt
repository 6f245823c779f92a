pub mod Types
pub mod Files
pub mod Listed
pub mod Run
pub mod Putting
pub mod Advance
pub mod Cut
