pub mod Openers
pub mod OneSlot
