use Rattle.std.proofs.Common.{◌≡◌, true, ap, subst, sym, ◌∙◌}
use Rattle.mb_way.specs.Ways.{AreWaysOf}
use Rattle.mb_file.specs.File.{File, are_complete, file_bytes}
use Rattle.mb_file.specs.FileView.{kept_seen, AreReady, StandAs, file_from}
use Rattle.mb_file.specs.declared.blocks.Blocks.{Blocks}
use Rattle.mb_file.proofs.FileLemmas.{missing-all}
use Rattle.mb_file.proofs.ReadyLemmas.{are-ready, file-is}
use Rattle.mb_file.proofs.file.FileRx.take.Goals as goal

pub solve-requires-clause-ready : goal.solve-requires-clause-ready
solve-requires-clause-ready g c =
    let i = c.self.inside in
    let d = c.args.desc.now in
    let of = subst (λ (f : File). AreWaysOf d f.ways) (sym c.self.view_is) c.requires.file.ways in
    let complete : are_complete i.ways (kept_seen i.ways i.blocks) ≡ true = ap (λ (f : File). are_complete f.ways f.kept) c.self.view_is ∙ c.requires.complete in
    let ready : AreReady d i.blocks = are-ready d i.ways i.symbol i.blocks of (ap (λ (f : File). f.symbol) c.self.view_is ∙ c.requires.file.symbol) c.self.invariant.are complete in
    λ lifetimes met. subst (AreReady d) (sym c.replace-blocks.ensures.value) ready

pub invariant_of-self : goal.invariant_of-self
invariant_of-self g c =
    let i = c.self.inside in
    let d = c.args.desc.now in
    let of = subst (λ (f : File). AreWaysOf d f.ways) (sym c.self.view_is) c.requires.file.ways in
    subst (λ (b : Blocks). StandAs i.ways i.symbol b c.symbols-self-inside.result) (sym c.replace-blocks.ensures.after)
    (record { are = tt; count = c.symbols-self-inside.ensures.exact ∙ sym (missing-all d i.ways c.requires.file.good of) })

pub returns-clause-bytes : goal.returns-clause-bytes
returns-clause-bytes g c =
    let i = c.self.inside in
    let d = c.args.desc.now in
    let of = subst (λ (f : File). AreWaysOf d f.ways) (sym c.self.view_is) c.requires.file.ways in
    let complete : are_complete i.ways (kept_seen i.ways i.blocks) ≡ true = ap (λ (f : File). are_complete f.ways f.kept) c.self.view_is ∙ c.requires.complete in
    c.solve.ensures ∙ ap (file_from d) c.replace-blocks.ensures.value
    ∙ file-is d i.ways i.symbol i.blocks of (ap (λ (f : File). f.symbol) c.self.view_is ∙ c.requires.file.symbol) c.self.invariant.are complete
    ∙ ap (λ (f : File). file_bytes d f.ways f.kept) c.self.view_is
