pub mod Way
pub mod Ways
pub mod Views
pub mod Determined
pub mod Solution
pub mod Heard
pub mod Laws
