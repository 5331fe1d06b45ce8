pub mod Tokens
pub mod Lines
pub mod ItemRanges
pub mod Documents
