pub mod Types
pub mod Attested
pub mod Reading
pub mod Acceptance
pub mod Sorting
pub mod Pieces
pub mod Parts
