pub mod RowLemmas
pub mod SpanLemmas
pub mod Elimination
pub mod Deciding
pub mod Independence
pub mod EchelonLemmas
pub mod Spanning
