mod Fronts
mod Images
mod Made
mod Opening
mod Pairs
mod Settling
mod Slots
mod Steps
pub mod Verdicts
