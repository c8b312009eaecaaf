pub mod CommandLemmas
pub mod TxLemmas
pub mod RxLemmas
pub mod WorkerLemmas
