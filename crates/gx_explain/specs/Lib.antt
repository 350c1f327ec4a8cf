pub mod Reading
pub mod Parts
pub mod Places
pub mod Tails
pub mod Windows
pub mod Reasons
pub mod Top
