-- What the names of the open elements stand for in the definition of the reader.
use Rattle.std.specs.Prelude.{ℕ, List, drop, map}
use Rattle.mb_fdt.specs.declared.path.Path.{Path}

abbrev pub path_of : Path → List (List ℕ)
path_of p = map (λ name. name.now) (drop p.free p.names)
