pub mod JointTrees
pub mod Rewards
pub mod Rooms
pub mod RowWeights
pub mod WeightUpdates
pub mod Worths
