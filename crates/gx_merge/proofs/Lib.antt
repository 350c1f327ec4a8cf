pub mod Fronts
pub mod Merged
