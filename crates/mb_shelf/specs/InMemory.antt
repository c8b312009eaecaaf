-- The content of a shelf in memory.
use Rattle.std.specs.Prelude.{ℕ, List}
use Rattle.mb_shelf.specs.declared.mem_shelf.MemShelf.{MemShelf}

-- the bytes to come of each file
abbrev pub files_in : MemShelf → List (List ℕ)
files_in shelf = shelf.files.items
