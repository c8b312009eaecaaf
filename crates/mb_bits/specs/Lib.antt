pub mod BitRow
pub mod Xor
