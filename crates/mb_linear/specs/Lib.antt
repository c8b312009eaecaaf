pub mod Row
pub mod Span
pub mod Echelon
pub mod Laws
