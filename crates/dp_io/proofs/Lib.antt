pub mod FetchLemmas
mod HeldLemmas
