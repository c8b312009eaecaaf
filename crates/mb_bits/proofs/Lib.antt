pub mod BitLemmas
pub mod XorLemmas
