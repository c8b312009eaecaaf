use Rattle.std.proofs.Common.{◌≡◌, ◌≤◌, ◌<◌, length, take, drop, arith, ◌+◌, ◌-◌}
use Rattle.std.proofs.lemmas.Grind.{common_steps}
use Rattle.std.proofs.lemmas.List.Elements.{All-drop}
use Rattle.mb_memory.proofs.Copies.{copied_front}
use Rattle.mb_shelf.proofs.mem_file.MemFile.read.Goals as goal

pub returns-clause-moved : goal.returns-clause-moved
returns-clause-moved c =
    let place = c.self.inside.place in
    let part : c.copy_from_slice.new.self ≡ take (place + c.min-count.result - place) (drop place c.self.inside.bytes.items)
    = rw c.deref.ensures.value at c.copy_from_slice.ensures.after in
    let fits : place + c.min-count.result ≤ length c.self.inside.bytes.items = grind (arith, common_steps) in
    rw (← c.self.view_is) (copied_front _ _ _ _ _ part fits)

pub returns-clause-bytes : goal.returns-clause-bytes
returns-clause-bytes c = All-drop (λ byte. byte < 256) _ _ c.self.invariant.1
