use Rattle.std.proofs.Common.{sym, ◌∙◌}
use Rattle.mb_file.proofs.FileLemmas.{missing-all}
use Rattle.mb_file.proofs.file.FileRx.new.Goals as goal

pub invariant_of-result : goal.invariant_of-result
invariant_of-result c = record {
  are = tt;
  count = c.symbols.ensures.exact ∙ sym (missing-all c.args.desc.now c.args.ways c.length-length.ensures.good c.requires);
}
