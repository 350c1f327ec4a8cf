pub mod Orders
pub mod Deliveries
