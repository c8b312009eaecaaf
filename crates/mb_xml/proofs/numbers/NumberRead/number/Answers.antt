use Rattle.std.proofs.Common.{sym}
use Rattle.mb_xml.proofs.NumberSteps.{number_nothing}
use Rattle.mb_xml.proofs.numbers.NumberRead.number.Goals as goal

pub returns-in-Nothing : goal.returns-in-Nothing
returns-in-Nothing c = rw c.in-Nothing.is (sym (number_nothing c.args.limit))
