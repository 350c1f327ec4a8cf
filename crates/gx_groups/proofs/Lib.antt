pub mod Counts
pub mod Fresh
pub mod Noted
pub mod Runs
pub mod Sessions
pub mod Told
pub mod Whole
