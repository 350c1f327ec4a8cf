pub mod Edge
pub mod LocalGraph
pub mod Claim
pub mod Claims
pub mod Graph
pub mod Closed
pub mod Finish
pub mod Victims
