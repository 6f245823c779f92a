pub mod Types
pub mod Unreadable
pub mod Entries
pub mod Limits
pub mod Calls
pub mod RoundTrip
