use Rattle.mb_fdt_text.specs.Reader.{finish}
use Rattle.mb_fdt.proofs.read.finish.Goals as goal

pub returns-in-Between : goal.returns-in-Between
unfolding finish
returns-in-Between c = rw c.in-Between.is (c.whole.ensures c.in-Between.start)
