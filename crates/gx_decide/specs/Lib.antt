pub mod Calls
pub mod Deciding
pub mod Disk
pub mod History
pub mod Kept
pub mod Log
pub mod Memory
