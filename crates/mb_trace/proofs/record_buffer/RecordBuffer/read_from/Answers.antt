use Rattle.std.proofs.Common.{ℕ, List, ◌++◌, ◌≤◌, take, length, ap, ◌∙◌, arith}
use Rattle.mb_trace.proofs.BufferLemmas.{read-kept, read-grown, Stays-read, Stays-kept, OnErr-always}
use Rattle.mb_trace.proofs.record_buffer.RecordBuffer.read_from.Goals as goal

pub returns-in_err-count-clause-kept : goal.returns-in_err-count-clause-kept
returns-in_err-count-clause-kept g c =
    let h = c.move_to_front.new.self in
    let room = c.deref_mut.ensures in
    let within : h.end ≤ length c.deref_mut.result.now = omega arith in
    Stays-kept _ _ _ _ c.in_err-count.ensures.kept
    (read-kept h.bytes c.deref_mut.result.now c.read.new.buf h.start h.end room.value room.len h.ordered within (omega arith)
    ∙ c.move_to_front.ensures.bytes)

pub returns-in_err-count-clause-failed : goal.returns-in_err-count-clause-failed
returns-in_err-count-clause-failed g c =
    let h = c.move_to_front.new.self in
    let room = c.deref_mut.ensures in
    let within : h.end ≤ length c.deref_mut.result.now = omega arith in
    OnErr-always c.from_residual.result _
    (read-kept h.bytes c.deref_mut.result.now c.read.new.buf h.start h.end room.value room.len h.ordered within (omega arith)
    ∙ c.move_to_front.ensures.bytes)

pub returns-clause-kept : goal.returns-clause-kept
returns-clause-kept g c =
    let h = c.move_to_front.new.self in
    let room = c.deref_mut.ensures in
    let n = c.in_ok-count.count in
    let within : h.end ≤ length c.deref_mut.result.now = omega arith in
    Stays-read _ _ _ _ (take n c.read.new.buf) c.in_ok-count.ensures.moved
    (read-grown h.bytes c.deref_mut.result.now c.read.new.buf h.start h.end room.value room.len h.ordered within (omega arith) n c.in_ok-count.ensures.within
    ∙ ap (λ (l : List ℕ). l ++ take n c.read.new.buf) c.move_to_front.ensures.bytes)
