-- What a caller knows of an index beside the list of its TOIs.
use Rattle.std.specs.Prelude.{ℕ}

-- how many TOIs it takes at most
abbrev pub index_most : ℕ
index_most = 1024
