pub mod LimitLemmas
pub mod PartLemmas
pub mod RowLemmas
pub mod FileLemmas
pub mod OneReading
