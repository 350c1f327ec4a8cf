pub mod Classes
pub mod Queries
pub mod Statements
pub mod Heads
