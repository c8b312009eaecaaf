pub mod Trace
pub mod Sent
pub mod Block
pub mod Counts
