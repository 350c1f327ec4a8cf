pub mod Gxids
pub mod Snapshot
