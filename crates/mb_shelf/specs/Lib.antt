pub mod Shelf
pub mod Reading
pub mod InMemory
