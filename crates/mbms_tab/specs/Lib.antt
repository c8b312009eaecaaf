pub mod Forms
pub mod Lines
pub mod Show
pub mod Steps
pub mod Make
pub mod Check
pub mod Parts
pub mod Laws
