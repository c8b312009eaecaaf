pub mod RunLemmas
pub mod FileLemmas
pub mod SizeLemmas
pub mod ReadyLemmas
pub mod MemoryLemmas
