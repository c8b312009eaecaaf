use Rattle.std.proofs.Common.{◌++◌, take, drop, ap, ◌∙◌}
use Rattle.mb_trace.proofs.NumberLemmas.{be_bytes-six}
use Rattle.mb_trace.proofs.number.put_be48.Goals as goal

pub returns-clause-appended : goal.returns-clause-appended
returns-clause-appended c =
    let before = c.args.out.now.items in
    c.in_ok-extend_from_slice.ensures.items ∙ ap (λ bytes. before ++ take 6 (drop 2 bytes)) c.to_be_bytes.ensures
    ∙ ap (λ bytes. before ++ bytes) (be_bytes-six c.args.n)
