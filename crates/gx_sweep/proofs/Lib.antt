pub mod Places
pub mod Inserted
pub mod Living
pub mod Removed
pub mod Rows
