pub mod Nexts
pub mod Lengths
pub mod Bytes
pub mod Statements
pub mod Leading
pub mod Heads
pub mod Passes
pub mod Whole
