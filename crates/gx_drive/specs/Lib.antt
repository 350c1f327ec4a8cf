pub mod Chosen
pub mod Ends
pub mod Refused
pub mod Ordered
pub mod Agrees
pub mod Seeded
