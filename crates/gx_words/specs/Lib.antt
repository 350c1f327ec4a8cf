pub mod Command
pub mod Digits
pub mod Found
pub mod Words
pub mod Asked
