pub mod Before
pub mod Done
pub mod Moves
pub mod Reports
pub mod Room
pub mod Steps
pub mod Ways
pub mod Waking
