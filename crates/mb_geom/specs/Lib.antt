pub mod Partition
pub mod Description
pub mod SourceSymbol
pub mod Run
