pub mod SeenLemmas
pub mod FileLemmas
pub mod BlockLemmas
pub mod MissingLemmas
pub mod RaptorLemmas
