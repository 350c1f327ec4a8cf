pub mod Attempts
pub mod Bytes
pub mod Chars
pub mod Reports
pub mod Shown
pub mod Readings
pub mod Repeats
pub mod Stopped
