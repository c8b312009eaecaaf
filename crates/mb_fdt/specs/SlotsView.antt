-- What the values of the attributes of a tag stand for in the definition of the reader.
use Rattle.std.specs.Prelude.{take, map, option_map}
use Rattle.mb_fdt.specs.declared.slots.Slots.{Slots as ReadSlots}
use Rattle.mb_fdt_text.specs.Reader.{Slots}

abbrev pub slots_of : ReadSlots → Slots
slots_of s = take s.count (map (λ value. option_map (λ v. v.now) value) s.values)
