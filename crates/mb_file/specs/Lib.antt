pub mod File
pub mod Memory
pub mod FileView
pub mod Hearing
