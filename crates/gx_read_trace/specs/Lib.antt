pub mod Lines
pub mod Machine
pub mod Reading
pub mod FirstBad
pub mod ReadText
pub mod Rests
pub mod GoingOn
