pub mod Bytes
pub mod Comments
pub mod Tokens
pub mod TokenLaws
