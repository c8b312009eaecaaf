use Rattle.std.proofs.Common.{Err, ap}
use Rattle.mb_files.proofs.FileLemmas.{too_long_is_bad}
use Rattle.mb_files.proofs.reading.read_sent.Goals as goal

pub returns-in-Err-TooLong-clause-bad : goal.returns-in-Err-TooLong-clause-bad
returns-in-Err-TooLong-clause-bad g c =
    too_long_is_bad _ _ _ (g.F.Shelf.left c.args.shelf.now) _ (c.in-Err-TooLong.ensures.too_long (ap (λ e. Err e) c.in-Err-TooLong.field-0-is)) c.bad.ensures
