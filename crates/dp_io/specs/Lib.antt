pub mod FetchLaws
pub mod Held
pub mod Log
pub mod MemShelf
pub mod MemSink
pub mod Shelf
pub mod Sink
