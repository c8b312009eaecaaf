use Rattle.std.proofs.Common.{◌≡◌, vec_len}
use Rattle.mb_shelf.proofs.file_shelf.FileShelf.new.Given as goal

abbrev pub invariant-loop : goal.invariant-loop
invariant-loop g l = vec_len l.progress ≡ l.index
