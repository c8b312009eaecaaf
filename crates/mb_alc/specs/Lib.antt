pub mod Extensions
pub mod Laws
pub mod Packet
pub mod PacketView
pub mod Words
pub mod Written
