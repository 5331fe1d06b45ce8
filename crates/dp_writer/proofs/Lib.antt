pub mod Appending
pub mod ShortestDigits
pub mod DigitTexts
pub mod RowCells
pub mod RowTexts
pub mod RewardTexts
pub mod ListTexts
pub mod WordTexts
mod DrawnRewards
mod DrawnRows
mod JointSizes
mod MadeModels
mod TableLines
mod MadeWritable
pub mod RowNeeds
pub mod ReadDecimals
pub mod ReadFractions
pub mod ReadRows
pub mod ReadScales
pub mod Symbols
pub mod SpelledLines
pub mod SymbolItems
pub mod WordShapes
pub mod ReadPieces
pub mod NumberWords
pub mod Ranges
pub mod WrittenFacts
pub mod WrittenItems
pub mod StatementItems
pub mod EntryValues
pub mod HeaderRead
pub mod FieldSymbols
pub mod StatementValues
pub mod StatementRead
pub mod StatementsSaid
pub mod WrittenRead
pub mod ReadLists
pub mod SaidHeaders
pub mod SaidCovers
pub mod SaidStatements
pub mod RowsAgain
pub mod SaidCells
pub mod SaidFractions
pub mod SaidScales
pub mod SaidRewards
pub mod SaidLimits
pub mod RightRows
pub mod SaidTables
pub mod SaidStart
pub mod ReadTexts
