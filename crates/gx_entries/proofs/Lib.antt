pub mod Gxids
pub mod Stood
pub mod Updated
