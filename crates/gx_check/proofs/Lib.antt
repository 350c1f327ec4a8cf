pub mod Attempts
pub mod Reports
pub mod Cut
pub mod Exactly
