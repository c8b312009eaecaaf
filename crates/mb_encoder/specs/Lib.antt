pub mod Symbols
pub mod Solutions
pub mod Usable
pub mod Encoder
pub mod Kept
pub mod Faults
pub mod Laws
