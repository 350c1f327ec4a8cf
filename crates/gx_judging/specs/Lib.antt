pub mod Answers
pub mod Filled
pub mod Judged
pub mod Parts
pub mod Shown
pub mod Standing
pub mod Verdicts
pub mod Victims
