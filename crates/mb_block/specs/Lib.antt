pub mod Block
pub mod Missing
pub mod Buffer
pub mod Blocks
pub mod Raptor
pub mod Seen
pub mod Laws
