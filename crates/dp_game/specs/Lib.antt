pub mod Bounders
pub mod DeeperLooks
pub mod Extended
pub mod Games
pub mod Kept
