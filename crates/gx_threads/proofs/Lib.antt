pub mod Closing
pub mod Ending
pub mod Failures
pub mod Sent
