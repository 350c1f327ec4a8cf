pub mod KindLemmas
pub mod Nodes
