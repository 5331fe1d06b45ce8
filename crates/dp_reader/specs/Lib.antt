pub mod Reading
pub mod Repaired
