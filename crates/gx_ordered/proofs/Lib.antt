mod Counts
mod Filing
mod Following
mod Numbering
