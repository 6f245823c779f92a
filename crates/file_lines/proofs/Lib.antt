pub mod EntryLines
pub mod FileLines
