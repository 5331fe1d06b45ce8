mod Reading
mod Writing
