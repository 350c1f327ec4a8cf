pub mod Keyed
pub mod Parts
pub mod Truth
pub mod Earned
pub mod Once
pub mod OneAnswer
pub mod Cancelled
