pub mod Claims
pub mod Sent
pub mod Turns
pub mod Looking
pub mod Later
