pub mod Ranks
pub mod Weights
pub mod Lowering
pub mod Paid
pub mod Receipts
pub mod Answers
