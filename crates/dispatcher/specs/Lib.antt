pub mod Types
pub mod Telling
pub mod Dispatcher
pub mod Promises
