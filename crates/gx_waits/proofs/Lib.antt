pub mod Members
pub mod StuckWaits
pub mod Determined
