use Rattle.std.proofs.Common.{Some, option_map, arith}
use Rattle.std.proofs.lemmas.Grind.{common_steps}
use Rattle.std.proofs.lemmas.Str.{is_utf8-from_IsUtf8}
use Rattle.mb_fdt.proofs.SlotLemmas.{part_of_set, texts_with}
use Rattle.mb_fdt.proofs.slots.Slots.put.Goals as goal

pub invariant_of-self : goal.invariant_of-self
invariant_of-self c =
    let kept = texts_with (λ value. option_map (λ v. v.now) value) c.args.self.now.values c.args.place (Some c.args.value) c.args.self.now.texts
    (is_utf8-from_IsUtf8 c.args.value.now c.requires) in
    (grind (arith, common_steps), (c.args.self.now.within, (kept, tt)))

pub returns-then-place-lt-SLOTS : goal.returns-then-place-lt-SLOTS
returns-then-place-lt-SLOTS c = part_of_set (λ value. option_map (λ v. v.now) value) c.args.self.now.count c.args.self.now.values c.args.place (Some c.args.value)
