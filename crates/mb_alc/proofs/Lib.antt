pub mod ExtensionLemmas
pub mod PacketLemmas
pub mod PartLemmas
pub mod WriteLemmas
