pub mod Dealt
pub mod Each
pub mod Sent
pub mod Outside
