pub mod PlaceLemmas
pub mod WalkLemmas
pub mod MarkLemmas
pub mod FoldLemmas
pub mod CodeLemmas
pub mod ValueLemmas
pub mod MarkCount
pub mod DeterminedLemmas
