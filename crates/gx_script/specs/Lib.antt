pub mod Session
pub mod Hashed
