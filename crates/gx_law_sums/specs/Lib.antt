pub mod Transfers
pub mod Sums
