mod RowDraws
pub mod TreesAlong
mod JointActions
mod Played
mod EpisodeRows
