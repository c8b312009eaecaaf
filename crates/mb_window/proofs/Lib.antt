pub mod SeenLemmas
pub mod BufferLemmas
pub mod PlaceLemmas
pub mod RefusalLemmas
pub mod HearLemmas
pub mod LawLemmas
