pub mod Hearing
pub mod Alone
pub mod Extending
pub mod Solutions
pub mod Middle
pub mod Putting
