pub mod Growth
pub mod Modes
pub mod RunningSums
pub mod StepParts
pub mod TableBounds
