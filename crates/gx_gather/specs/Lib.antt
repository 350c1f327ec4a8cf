pub mod Added
pub mod Answered
pub mod First
pub mod Laws
