pub mod Plan
pub mod InMemory
pub mod ExchangeLog
pub mod MemLinks
