pub mod Results
pub mod Naming
pub mod Kinding
pub mod Selecting
pub mod Resolving
pub mod Columns
pub mod Typing
