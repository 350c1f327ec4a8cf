pub mod Marks
pub mod Rows
pub mod Lines
pub mod Runs
pub mod Points
mod NeverStarted
mod NothingReported
mod ReleasedEarly
pub mod Exclusive
mod RefusedParts
mod RefusedHistories
mod RefusedLate
mod RefusedCommits
mod RefusedCauses
mod RefusedLocks
mod RefusedAsking
mod Kept
