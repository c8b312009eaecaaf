pub mod Offered
pub mod Kept
pub mod Values
pub mod Replay
