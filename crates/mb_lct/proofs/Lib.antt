pub mod FieldLemmas
pub mod HeaderLemmas
pub mod ReadLemmas
pub mod WriteLemmas
