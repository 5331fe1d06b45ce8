pub mod Places
pub mod ItemLemmas
pub mod PieceLemmas
pub mod LineLemmas
pub mod ItemRangeLemmas
pub mod DocumentLemmas
