pub mod Noting
pub mod Texts
pub mod Balances
pub mod Edges
pub mod Adding
mod Counting
