pub mod Building
pub mod StepRewards
pub mod TableRows
