pub mod Tools
mod Lengths
pub mod Lexed
pub mod Runs
pub mod Written
pub mod Answered
