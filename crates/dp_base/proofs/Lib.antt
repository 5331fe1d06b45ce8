pub mod DigitRuns
pub mod DivisorLaws
pub mod Exponents
pub mod Floors
pub mod Grammar
pub mod GreatestValues
pub mod MadeLists
pub mod Magnitudes
pub mod Members
pub mod NaturalSumLaws
mod NumberRows
pub mod Order
pub mod Outcomes
pub mod Ring
pub mod Rounded
pub mod RoundingLaws
mod ShapeRows
pub mod Shortest
pub mod SignificandLaws
pub mod Sums
pub mod AllOfLists
