pub mod Fronts
pub mod Sources
