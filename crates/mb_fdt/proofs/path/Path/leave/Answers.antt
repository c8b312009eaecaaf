use Rattle.mb_fdt.proofs.SlotLemmas.{outside_next}
use Rattle.mb_fdt.proofs.path.Path.leave.Goals as goal

pub returns-then-self-lt-DEEPEST : goal.returns-then-self-lt-DEEPEST
returns-then-self-lt-DEEPEST c = outside_next (λ name. name.now) c.args.self.now.names c.args.self.now.free
