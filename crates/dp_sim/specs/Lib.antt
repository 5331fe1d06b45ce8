pub mod Draw
pub mod Words
pub mod Acting
pub mod Traces
pub mod Along
pub mod Episode
