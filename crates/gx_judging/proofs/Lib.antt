pub mod Grouping
pub mod Naming
pub mod Refusing
pub mod Waits
pub mod Walking
pub mod Wholes
