pub mod Dependent
pub mod Offering
pub mod OneCode
pub mod Lifting
pub mod Summing
pub mod Inverse
pub mod Solving
pub mod Making
