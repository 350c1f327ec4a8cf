pub mod Each
pub mod Names
pub mod Fitting
pub mod Keeping
pub mod Promised
