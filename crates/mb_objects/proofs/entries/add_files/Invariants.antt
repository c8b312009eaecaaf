use Rattle.std.proofs.Common.{◌≡◌, ◌++◌, ◌≤◌, ◌^◌, length, fold}
use Rattle.std.specs.Vec.Iter.{into_iter_items, into_iter_len}
use Rattle.mb_machine.specs.Entries.{after_entry, empty_report}
use Rattle.mb_objects.specs.Need.{IsNeed}
use Rattle.mb_objects.proofs.entries.add_files.Given as goal

abbrev pub invariant-loop-entry : goal.invariant-loop-entry
invariant-loop-entry l = record {
  so_far : l.yielded ++ into_iter_items l.entry-iterator ≡ into_iter_items l.initial.entry-iterator;
  len : into_iter_len l.entry-iterator ≡ length (into_iter_items l.entry-iterator);
  tables : l.codes ≡ l.initial.codes;
  acted : fold (after_entry l.initial.codes l.expires) (record { lives = l.initial.lives; report = empty_report }) l.yielded ≡ record { lives = l.lives; report = l.report };
  need : IsNeed l.need.plain l.need.equations l.lives;
  small : (l.need.plain ≤ 2 ^ 58) × (l.need.equations ≤ 2 ^ 58);
}
