pub mod TreeValue
pub mod Nodes
