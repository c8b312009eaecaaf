use Rattle.std.proofs.Common.{◌≡◌, ◌++◌, ◌&&◌, true, take, drop, flat_map, is_some}
use Rattle.std.specs.Prelude.{is_ok}
use Rattle.std.specs.List.{list_all}
use Rattle.mb_fdt_text.specs.WrittenForm.{entry_element, AreGood}
use Rattle.mb_fdt_text.proofs.write.put_entries.Given as goal

abbrev pub invariant-loop-entry : goal.invariant-loop-entry
invariant-loop-entry l = record {
  form :
      l.text.items ++ flat_map (λ e. entry_element e.toi e.entry) (drop l.entry-index l.entries)
      ≡ l.initial.text.items ++ flat_map (λ e. entry_element e.toi e.entry) l.entries;
  described : list_all (λ e. is_some e.toi && is_ok e.entry) (drop l.entry-index l.entries) ≡ true;
  good : AreGood (take l.entry-index l.entries);
}
