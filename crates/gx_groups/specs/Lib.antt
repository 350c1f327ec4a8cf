pub mod Slots
pub mod Seats
pub mod Table
pub mod Standings
pub mod Calls
