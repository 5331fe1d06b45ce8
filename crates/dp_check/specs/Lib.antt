pub mod Bounding
pub mod Nodes
pub mod Walks
pub mod Verdicts
pub mod Entries
pub mod Words
