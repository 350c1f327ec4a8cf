pub mod Entries
pub mod Rising
pub mod Dropped
pub mod XidEntries
pub mod Replaced
