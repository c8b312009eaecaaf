use Rattle.std.specs.Prelude.{ℕ, List, slice_range}
use Rattle.mb_trace.specs.declared.record_buffer.RecordBuffer.{RecordBuffer}

-- the bytes that were read and not yet given
abbrev pub held_bytes : RecordBuffer → List ℕ
held_bytes h = slice_range h.bytes.items h.start h.end
