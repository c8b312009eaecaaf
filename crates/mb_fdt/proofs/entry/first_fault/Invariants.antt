use Rattle.std.proofs.Common.{◌≡◌, drop}
use Rattle.mb_fdt_text.specs.Entry.{first_refusal}
use Rattle.mb_fdt.proofs.entry.first_fault.Given as goal

abbrev pub invariant-loop-holds : goal.invariant-loop-holds
invariant-loop-holds l = first_refusal (drop l.holds-index l.refusals) ≡ first_refusal l.refusals
