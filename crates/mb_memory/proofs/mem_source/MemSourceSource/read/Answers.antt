use Rattle.std.proofs.Common.{◌≡◌, ◌≤◌, length, take, drop, arith, ◌+◌, ◌-◌}
use Rattle.std.proofs.lemmas.Grind.{common_steps}
use Rattle.mb_memory.proofs.Copies.{copied_front}
use Rattle.mb_memory.proofs.mem_source.MemSourceSource.read.Goals as goal

pub returns-clause-moved : goal.returns-clause-moved
returns-clause-moved c =
    let part : c.copy_from_slice.new.self
    ≡ take (c.args.self.now.place + c.min-count.result - c.args.self.now.place) (drop c.args.self.now.place c.args.self.now.bytes.items)
    = rw c.deref.ensures.value at c.copy_from_slice.ensures.after in
    let fits : c.args.self.now.place + c.min-count.result ≤ length c.args.self.now.bytes.items = grind (arith, common_steps) in
    copied_front _ _ _ _ _ part fits
