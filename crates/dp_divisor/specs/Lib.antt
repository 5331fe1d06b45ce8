pub mod CommonDivisors
pub mod Inverses
