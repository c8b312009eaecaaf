use Rattle.std.proofs.Common.{List, ap, sym, ◌∙◌}
use Rattle.mb_way.specs.Way.{Way}
use Rattle.mb_file.specs.File.{nothing_kept, missing_in}
use Rattle.mb_file.proofs.FileLemmas.{no-missing}
use Rattle.mb_file.proofs.file.FileRx.forget.Goals as goal

pub invariant_of-self : goal.invariant_of-self
invariant_of-self c = record {
  are = tt;
  count = sym (ap (λ (ways : List Way). missing_in ways (nothing_kept ways)) c.forget.ensures ∙ no-missing);
}
