use Rattle.std.proofs.Common.{ℕ, length, ap, arith, length-append}
use Rattle.mb_base.proofs.NumberLemmas.{length-be_bytes}
use Rattle.mb_alc.proofs.WriteLemmas.{body-size, on_err}
use Rattle.mb_alc.proofs.writer.put_body.Goals as goal

pub returns-in_err-put_be16-clause-full : goal.returns-in_err-put_be16-clause-full
returns-in_err-put_be16-clause-full c =
    on_err c.from_residual.result (omega (arith, body-size c.args.body.now c.in-Some.body c.in-Some.is, c.in_err-put_be16.ensures.full))

pub returns-in_err-put_be16-2-clause-full : goal.returns-in_err-put_be16-2-clause-full
returns-in_err-put_be16-2-clause-full c =
    let size = ap length c.in_ok-put_be16.ensures.appended in
    on_err c.from_residual-in_err-put_be16-2.result (omega (
      arith,
      length-append {A = ℕ},
      length-be_bytes 2 c.in-Some.body.sbn,
      body-size c.args.body.now c.in-Some.body c.in-Some.is,
      c.in_err-put_be16-2.ensures.full,
      c.in_ok-put_be16.ensures.room,
      c.put_be16.new.out.ok.0,
    ))
