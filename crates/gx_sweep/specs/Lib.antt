pub mod Hashed
pub mod Index
pub mod Rids
pub mod Swept
