pub mod Life
pub mod Hearing
pub mod LifeView
pub mod Taking
