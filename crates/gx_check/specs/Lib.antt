pub mod Splitting
pub mod Parts
pub mod Top
