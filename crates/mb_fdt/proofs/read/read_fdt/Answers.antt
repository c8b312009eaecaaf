use Rattle.mb_fdt.proofs.ReadLemmas.{instance_is, fault_is}
use Rattle.mb_fdt.proofs.read.read_fdt.Goals as goal

pub returns-clause-instance : goal.returns-clause-instance
returns-clause-instance c = instance_is c.args.text.now c.in_ok-answer.answer c.in_ok-answer.ensures

pub returns-clause-fault : goal.returns-clause-fault
returns-clause-fault c = fault_is c.args.text.now c.in_ok-answer.answer c.in_ok-answer.ensures
