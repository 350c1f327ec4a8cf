pub mod Horizons
pub mod Sights
