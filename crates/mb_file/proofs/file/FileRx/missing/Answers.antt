use Rattle.std.proofs.Common.{ℕ, ◌==◌, ap, ◌∙◌}
use Rattle.mb_file.specs.File.{File, are_complete}
use Rattle.mb_file.specs.FileView.{kept_seen}
use Rattle.mb_file.proofs.FileLemmas.{each-kept, missing-zero}
use Rattle.mb_file.proofs.file.FileRx.missing.Goals as goal

pub returns-clause-complete : goal.returns-clause-complete
returns-clause-complete c =
    let i = c.self.inside in
    ap (λ (n : ℕ). n == 0) c.self.invariant.count
    ∙ missing-zero i.ways (kept_seen i.ways i.blocks) (each-kept i.ways i.symbol i.blocks c.self.invariant.are)
    ∙ ap (λ (f : File). are_complete f.ways f.kept) c.self.view_is
