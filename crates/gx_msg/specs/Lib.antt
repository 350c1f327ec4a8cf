pub mod ItemBytes
pub mod MessageText
pub mod Reading
pub mod Steps
