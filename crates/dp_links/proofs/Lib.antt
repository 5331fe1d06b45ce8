pub mod LinkSums
