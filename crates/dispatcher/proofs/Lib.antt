pub mod Numbered
pub mod ReadBack
pub mod Composing
pub mod Due
pub mod Marking
