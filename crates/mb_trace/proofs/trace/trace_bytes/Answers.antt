use Rattle.std.proofs.Common.{ℕ, length, ap, length-append, arith}
use Rattle.mb_trace.proofs.NumberLemmas.{length-be_bytes}
use Rattle.mb_trace.proofs.trace.trace_bytes.Goals as goal

pub returns-in_err-put_be16-clause-kept : goal.returns-in_err-put_be16-clause-kept
returns-in_err-put_be16-clause-kept c =
    let moment = ap length c.in_ok-put_be48.ensures.appended in
    absurd (omega (
      arith,
      length-append {A = ℕ},
      length-be_bytes 6 c.args.at,
      c.in_err-put_be16.ensures.full,
      c.in_ok-put_be48.ensures.room,
      c.in_ok-reserve.ensures.ok,
      c.reserve.new.self.ok.0,
      c.put_be48.new.out.ok.0,
    ))

pub returns-in_err-extend_from_slice-clause-kept :
    goal.returns-in_err-extend_from_slice-clause-kept
returns-in_err-extend_from_slice-clause-kept c =
    let moment = ap length c.in_ok-put_be48.ensures.appended in
    let size = ap length c.in_ok-put_be16.ensures.appended in
    absurd (omega (
      arith,
      length-append {A = ℕ},
      length-be_bytes 6 c.args.at,
      length-be_bytes 2 (length c.args.datagram.now),
      c.in_err-extend_from_slice.ensures.full,
      c.in_ok-put_be16.ensures.room,
      c.in_ok-put_be48.ensures.room,
      c.in_ok-reserve.ensures.ok,
      c.reserve.new.self.ok.0,
      c.put_be48.new.out.ok.0,
      c.put_be16.new.out.ok.0,
    ))
