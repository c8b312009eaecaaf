pub mod Block
pub mod Kept
pub mod Sources
