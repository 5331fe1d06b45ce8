pub mod Within
pub mod TreeValues
