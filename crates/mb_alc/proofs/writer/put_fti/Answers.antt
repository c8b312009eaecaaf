use Rattle.std.proofs.Common.{◌≡◌, ℕ, length, ap, arith, length-append}
use Rattle.mb_base.proofs.NumberLemmas.{length-be_bytes}
use Rattle.mb_alc.specs.Written.{words_if}
use Rattle.mb_alc.proofs.WriteLemmas.{on_err}
use Rattle.mb_alc.proofs.writer.put_fti.Goals as goal

pub returns-in_err-put_be16-clause-full : goal.returns-in_err-put_be16-clause-full
returns-in_err-put_be16-clause-full c =
    let words : words_if 4 c.args.fti ≡ 4 = ap (words_if 4) c.in-Some.is in
    let size = ap length c.in_ok-put_be48.ensures.appended in
    on_err c.from_residual-in_err-put_be16.result (omega (
      arith,
      length-append {A = ℕ},
      length-be_bytes 6 c.in-Some.fti.transfer,
      c.in_err-put_be16.ensures.full,
      c.in_ok-put_be48.ensures.room,
      c.in_ok-extend_from_slice.ensures.len,
      c.in_ok-extend_from_slice.ensures.capacity,
      c.extend_from_slice.new.self.ok.0,
      c.put_be48.new.out.ok.0,
    ))

pub returns-in_err-put_be16-2-clause-full : goal.returns-in_err-put_be16-2-clause-full
returns-in_err-put_be16-2-clause-full c =
    let words : words_if 4 c.args.fti ≡ 4 = ap (words_if 4) c.in-Some.is in
    let size = ap length c.in_ok-put_be48.ensures.appended in
    let more = ap length c.in_ok-put_be16.ensures.appended in
    on_err c.from_residual-in_err-put_be16-2.result (omega (
      arith,
      length-append {A = ℕ},
      length-be_bytes 6 c.in-Some.fti.transfer,
      length-be_bytes 2 c.in-Some.fti.instance,
      c.in_err-put_be16-2.ensures.full,
      c.in_ok-put_be16.ensures.room,
      c.in_ok-put_be48.ensures.room,
      c.in_ok-extend_from_slice.ensures.len,
      c.in_ok-extend_from_slice.ensures.capacity,
      c.extend_from_slice.new.self.ok.0,
      c.put_be48.new.out.ok.0,
      c.put_be16.new.out.ok.0,
    ))

pub returns-in_err-extend_from_slice-2-clause-full : goal.returns-in_err-extend_from_slice-2-clause-full
returns-in_err-extend_from_slice-2-clause-full c =
    let words : words_if 4 c.args.fti ≡ 4 = ap (words_if 4) c.in-Some.is in
    let size = ap length c.in_ok-put_be48.ensures.appended in
    let more = ap length c.in_ok-put_be16.ensures.appended in
    let most = ap length c.in_ok-put_be16-2.ensures.appended in
    on_err c.from_residual-in_err-extend_from_slice-2.result (omega (
      arith,
      length-append {A = ℕ},
      length-be_bytes 6 c.in-Some.fti.transfer,
      length-be_bytes 2 c.in-Some.fti.instance,
      length-be_bytes 2 c.in-Some.fti.symbol,
      c.in_err-extend_from_slice-2.ensures.full,
      c.in_ok-put_be16-2.ensures.room,
      c.in_ok-put_be16.ensures.room,
      c.in_ok-put_be48.ensures.room,
      c.in_ok-extend_from_slice.ensures.len,
      c.in_ok-extend_from_slice.ensures.capacity,
      c.extend_from_slice.new.self.ok.0,
      c.put_be48.new.out.ok.0,
      c.put_be16.new.out.ok.0,
      c.put_be16-in-Some.new.out.ok.0,
    ))
