pub mod Limits
pub mod Tables
pub mod Refused
pub mod Parts
pub mod Made
