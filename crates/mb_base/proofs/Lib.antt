pub use Rattle.mb_outside.proofs.Content
pub use Rattle.mb_trace.proofs.NumberLemmas
pub use Rattle.mb_trace.proofs.TraceLemmas
pub use Rattle.mb_trace.proofs.TraceLaws
