mod ModelRows
mod FaultRows
mod LimitRows
pub mod Each
pub mod FaultSteps
pub mod Lists
pub mod CellNumbers
pub mod CellValues
pub mod Repairs
pub mod TableRows
pub mod Meant
pub mod TextLimits
pub mod BuiltModel
pub mod CellLaws
pub mod RowLaws
pub mod ReadValues
pub mod ReadHeader
pub mod ReadStatements
pub mod ReadFields
pub mod ReadScales
pub mod ModelLaws
pub mod FaultLaws
pub mod SaidTexts
