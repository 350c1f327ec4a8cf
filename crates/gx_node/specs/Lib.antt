pub mod Phases
pub mod Pledges
pub mod Changes
pub mod Orders
pub mod Outcomes
pub mod Locking
pub mod Right
