pub mod ExactSteps
pub mod Parts
pub mod Fractions
mod FractionRows
pub mod VectorLaws
