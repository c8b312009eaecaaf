use Rattle.std.proofs.Common.{◌+◌, arith, rules}
use Rattle.mb_fdt.proofs.StretchLemmas.{stretch_is, placed_further}
use Rattle.mb_fdt.proofs.reader.Reader.behind_stretch.Goals as goal

pub overflow_add-result : goal.overflow_add-result
overflow_add-result c =
    let run = stretch_is c.passed_over.result c.args.token c.args.self.now c.args.at c.requires.placed c.requires.within c.passed_over.ensures in
    let within = run.within in
    search rules

pub returns-clause-stretch : goal.returns-clause-stretch
returns-clause-stretch c = stretch_is c.passed_over.result c.args.token c.args.self.now c.args.at c.requires.placed c.requires.within c.passed_over.ensures

pub returns-clause-placed : goal.returns-clause-placed
returns-clause-placed c = placed_further c.args.token c.args.self.now c.args.at (c.args.at + c.passed_over.result) (omega arith) c.requires.placed
