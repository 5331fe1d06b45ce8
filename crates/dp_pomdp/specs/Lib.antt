pub mod Bounding
pub mod Keys
pub mod Looking
pub mod Memos
pub mod Multiples
pub mod Rooms
