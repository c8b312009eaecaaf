pub mod ShowLemmas
pub mod LawLemmas
pub mod FormLemmas
pub mod MakeLemmas
pub mod CheckLemmas
