use Rattle.mb_machine.proofs.OrderLemmas.{two_orders}
use Rattle.mb_machine.proofs.laws.two_orders_one_file.Goals as goal

pub returns : goal.returns
returns c = two_orders
