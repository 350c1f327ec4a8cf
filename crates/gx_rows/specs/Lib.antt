pub mod Rows
pub mod Rids
pub mod Counts
pub mod Keys
pub mod Xids
pub mod Truncated
pub mod VersionLists
pub mod Lent
