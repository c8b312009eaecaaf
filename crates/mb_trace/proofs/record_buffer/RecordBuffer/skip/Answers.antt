use Rattle.std.proofs.Common.{ℕ, arith}
use Rattle.std.proofs.lemmas.List.{length-take, length-drop}
use Rattle.mb_trace.proofs.BufferLemmas.{skipped}
use Rattle.mb_trace.proofs.record_buffer.RecordBuffer.skip.Goals as goal

pub returns : goal.returns
returns c =
    let h = c.args.self.now in
    skipped h.bytes.items h.start h.end c.args.count (omega (arith, length-take {A = ℕ}, length-drop {A = ℕ}))
