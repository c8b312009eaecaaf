pub mod NameLemmas
pub mod NumberLemmas
pub mod ReferenceLemmas
pub mod EncodedLemmas
pub mod NumberSteps
pub mod CharacterLemmas
pub mod ReplacedLemmas
