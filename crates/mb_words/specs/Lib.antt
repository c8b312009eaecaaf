pub mod Numbers
pub mod Scheme
pub mod Choices
pub mod Forms
pub mod Values
pub mod Tx
pub mod Rx
