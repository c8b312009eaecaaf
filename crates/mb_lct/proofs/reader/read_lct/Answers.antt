use Rattle.mb_lct.proofs.ReadLemmas.{answered_head, answered_fault}
use Rattle.mb_lct.proofs.reader.read_lct.Goals as goal

pub returns-clause-found : goal.returns-clause-found
returns-clause-found c = answered_head c.args.bytes.now c.header_in.result c.type_inv.bytes c.header_in.ensures.exact

pub returns-clause-refused : goal.returns-clause-refused
returns-clause-refused c = answered_fault c.args.bytes.now c.header_in.result c.type_inv.bytes c.header_in.ensures.exact
