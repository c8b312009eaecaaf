use Rattle.std.specs.Prelude.{ℕ, Bool, List, Option, option_map}
use Rattle.mb_outside.specs.Broadcast.{Broadcast}
use Rattle.mb_trace.specs.RecordBuffer.{held_bytes}
use Rattle.mb_trace.specs.Trace.{trace_broadcast, bytes_ahead, has_record}
pub use Rattle.mb_trace.specs.declared.trace_reader.TraceReader.{TraceReader}

-- the bytes that were read and not yet given
abbrev pub held_of : TraceReader → List ℕ
held_of reader = held_bytes reader.held

-- what a reader has ahead of it, where its source has these bytes left
abbrev pub ahead_of : TraceReader → Option ℕ → Option (List ℕ) → Option Broadcast
ahead_of reader rested left = option_map (trace_broadcast reader.place rested) (bytes_ahead (held_of reader) left)

-- a whole record was read and is not given yet
abbrev pub holds_record : TraceReader → Bool
holds_record reader = has_record (held_of reader)
