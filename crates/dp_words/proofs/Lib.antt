mod WordRows
pub mod WordNumbers
pub mod Walks
pub mod Rows
pub mod Cuts
pub mod WordKinds
pub mod Rules
pub mod Lines
pub mod Parsed
pub mod Found
pub mod Dashes
pub mod Ranges
pub mod Fits
pub mod Jobs
pub mod Steps
