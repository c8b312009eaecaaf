pub mod Outside
pub mod Broadcast
pub mod Files
pub mod Links
pub mod Chance
pub mod StatusNumber
