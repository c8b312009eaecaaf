use Rattle.std.proofs.Common.{None, option_map, arith, get_or}
use Rattle.mb_fdt.proofs.SlotLemmas.{text_at, some_text}
use Rattle.mb_fdt.proofs.slots.Slots.value.Goals as goal

pub returns-then-place-self-clause-text : goal.returns-then-place-self-clause-text
returns-then-place-self-clause-text c =
    some_text (λ v. v.now) (get_or c.args.self.now.values c.args.place None)
    (text_at (λ value. option_map (λ v. v.now) value) c.args.self.now.values c.args.place None c.args.self.now.texts (omega arith))
