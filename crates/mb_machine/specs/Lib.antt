pub mod Table
pub mod Entries
pub mod Packets
pub mod Counts
pub mod SentSet
pub mod Laws
