pub mod Passing
pub mod Named
pub mod Few
pub mod Begun
pub mod Runs
