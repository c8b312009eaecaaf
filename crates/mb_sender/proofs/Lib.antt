pub mod Joining
pub mod Turns
pub mod Sizes
pub mod Encoding
pub mod Listing
pub mod Counting
pub mod Encoders
pub mod Fitting
