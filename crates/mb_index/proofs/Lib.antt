pub mod PositionLemmas
pub mod OrderLemmas
