use Rattle.std.proofs.Common.{ℕ, List, Option, None, refl, arith}
use Rattle.std.proofs.lemmas.List.{take-replicate}
use Rattle.mb_fdt.proofs.SlotLemmas.{nothing_is_text}
use Rattle.mb_fdt.proofs.slots.Slots.empty.Goals as goal

pub invariant_of-result-clause-texts : goal.invariant_of-result-clause-texts
invariant_of-result-clause-texts c = rw nothing_is_text refl

pub returns : goal.returns
returns c =
    let none : Option (List ℕ) = None in
    take-replicate c.args.count 11 none (omega arith)
