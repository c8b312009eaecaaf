pub mod LivesView
pub mod Need
pub mod Stepping
pub mod Takes
pub mod Bound
