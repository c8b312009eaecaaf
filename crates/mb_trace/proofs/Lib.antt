pub mod NumberLemmas
pub mod TraceLemmas
pub mod BufferLemmas
pub mod TraceLaws
