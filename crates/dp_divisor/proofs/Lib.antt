pub mod CommonDivisorLaws
pub mod InverseLaws
