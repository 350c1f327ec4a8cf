pub mod Attempts
pub mod Kept
pub mod Lent
pub mod Refusals
pub mod Reports
pub mod Runs
pub mod Language
