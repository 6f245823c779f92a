pub mod Types
pub mod Writing
pub mod Requests
pub mod FileClaim
pub mod Cursor
pub mod Fits
