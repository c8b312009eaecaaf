-- The content of the objects in memory.
use Rattle.std.specs.Prelude.{ℕ, List, drop}
use Rattle.mb_outside.specs.Files.{File}
use Rattle.mb_memory.specs.declared.mem_source.MemSource.{MemSource}
use Rattle.mb_memory.specs.declared.mem_sink.MemSink.{MemSink}
use Rattle.mb_memory.specs.declared.mem_store.MemStore.{MemStore}
use Rattle.mb_memory.specs.declared.list_chance.ListChance.{ListChance}

-- the bytes to come
abbrev pub left_in : MemSource → List ℕ
left_in source = drop source.place source.bytes.items

-- the bytes that were written
abbrev pub written_in : MemSink → List ℕ
written_in sink = sink.bytes.items

-- the files that were put, in order
abbrev pub files_in : MemStore → List File
files_in store = store.entries.items

-- the words to come
abbrev pub words_in : ListChance → List ℕ
words_in chance = drop chance.place chance.words.items
