use Rattle.std.proofs.Common.{ap, subst, sym, ◌∙◌, arith}
use Rattle.mb_way.specs.Ways.{AreWaysOf}
use Rattle.mb_file.specs.File.{File}
use Rattle.mb_file.proofs.MemoryLemmas.{few-blocks, bytes-most, bytes-small, held-least}
use Rattle.mb_file.proofs.file.FileRx.buffered.Goals as goal

pub blocks_bytes-requires : goal.blocks_bytes-requires
blocks_bytes-requires c =
    let i = c.self.inside in
    let of = subst (λ (f : File). AreWaysOf c.args.desc.now f.ways) (sym c.self.view_is) c.requires.file.ways in
    few-blocks c.args.desc.now i.ways i.symbol i.blocks c.requires.file.good of c.self.invariant.are

pub overflow_add-result : goal.overflow_add-result
overflow_add-result c =
    let i = c.self.inside in
    let of = subst (λ (f : File). AreWaysOf c.args.desc.now f.ways) (sym c.self.view_is) c.requires.file.ways in
    let symbol = ap (λ (f : File). f.symbol) c.self.view_is ∙ c.requires.file.symbol in
    omega (arith, c.blocks_bytes.ensures, bytes-small c.args.desc.now i.ways i.symbol i.blocks c.requires.file.good of symbol c.self.invariant.are, c.code_bytes.ensures.small)

pub returns-clause-most : goal.returns-clause-most
returns-clause-most c =
    let i = c.self.inside in
    let of = subst (λ (f : File). AreWaysOf c.args.desc.now f.ways) (sym c.self.view_is) c.requires.file.ways in
    let symbol = ap (λ (f : File). f.symbol) c.self.view_is ∙ c.requires.file.symbol in
    omega (arith, c.blocks_bytes.ensures, bytes-most c.args.desc.now i.ways i.symbol i.blocks c.requires.file.good of symbol c.self.invariant.are, c.code_bytes.ensures.most c.args.desc.now of)

pub returns-clause-least : goal.returns-clause-least
returns-clause-least c =
    let i = c.self.inside in
    omega (arith, c.blocks_bytes.ensures, held-least c.args.self.now i.ways i.symbol i.blocks c.self.invariant.are c.self.view_is)

pub returns-clause-small : goal.returns-clause-small
returns-clause-small c =
    let i = c.self.inside in
    let of = subst (λ (f : File). AreWaysOf c.args.desc.now f.ways) (sym c.self.view_is) c.requires.file.ways in
    let symbol = ap (λ (f : File). f.symbol) c.self.view_is ∙ c.requires.file.symbol in
    omega (arith, c.blocks_bytes.ensures, bytes-small c.args.desc.now i.ways i.symbol i.blocks c.requires.file.good of symbol c.self.invariant.are, c.code_bytes.ensures.small)
