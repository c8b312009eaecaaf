use Rattle.mb_alc.proofs.ExtensionLemmas.{answered_exts, answered_fault}
use Rattle.mb_alc.proofs.extension.read_exts.Goals as goal

pub returns-clause-found : goal.returns-clause-found
returns-clause-found c = answered_exts c.args.area.now c.exts_in.result c.type_inv.area c.exts_in.ensures

pub returns-clause-refused : goal.returns-clause-refused
returns-clause-refused c = answered_fault c.args.area.now c.exts_in.result c.exts_in.ensures
