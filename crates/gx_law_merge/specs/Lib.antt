pub mod Apart
pub mod Merge
pub mod MergeRuns
