pub mod Number
pub mod Trace
pub mod RecordBuffer
pub mod TraceReader
