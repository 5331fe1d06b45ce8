pub mod Limits
pub mod Horizons
pub mod Names
pub mod Parts
pub mod Tables
